-- What stays while no vertex is closed; and ways put together.
use mathlib.Core.Path.{◌≡◌, sym, subst, ◌∙◌}
use mathlib.Core.List.{List}
use Prim.Native.Nat.{ℕ, ◌≤◌}
use native.Mathlib.Omega.{arith}
use Rattle.relations.specs.Reach.{Reaches, direct}
use Rattle.relations.proofs.Reach.{reaches_trans}
use Rattle.cycles.specs.State.{State}
use Rattle.cycles.specs.Component.{Leads, stays, goes, Components}
use Rattle.cycles.specs.Search.{Opened, Line}
use Rattle.cycles.proofs.Cell.{with_arcs}

pub leads_arc : {E : ℕ → ℕ → Type 0} {a groups c : ℕ} → Leads E a groups → E groups c → Reaches E a c
leads_arc {E} {a} {groups} {c} (stays q) e = direct (subst (λ (x : ℕ). E x c) (sym q) e)
leads_arc (goes r) e = reaches_trans r (direct e)

pub reaches_leads : {E : ℕ → ℕ → Type 0} {a groups c : ℕ} → Reaches E a groups → Leads E groups c → Reaches E a c
reaches_leads {E} {a} r (stays q) = subst (λ (x : ℕ). Reaches E a x) q r
reaches_leads r (goes t) = reaches_trans r t

-- the closed vertices are the same, and so are their groups and places
pub components_keep :
    {first to : List ℕ} {σ σ' : State} {n finished : ℕ} → Components first to σ n finished
    → ((v : ℕ) → 2 ≤ σ'.group v → 2 ≤ σ.group v)
    → ((v : ℕ) → 2 ≤ σ.group v → (σ'.group v ≡ σ.group v) × (σ'.place v ≡ σ.place v))
    → Components first to σ' n finished
components_keep {first} {to} {σ} {σ'} {n} {finished} c back same =
    let G : (v : ℕ) → 2 ≤ σ.group v → σ'.group v ≡ σ.group v = λ v h. (same v h).0 in
    let P : (v : ℕ) → 2 ≤ σ.group v → σ'.place v ≡ σ.place v = λ v h. (same v h).1 in
    record {
      place_low = λ v l h. let k = back v h in omega (arith, P v k, c.place_low v l k);
      starts = λ v l h. let k = back v h in omega (arith, G v k, P v k, c.starts v l k);
      ranges = λ v w l i h j q. let k = back v h in let o = back w j in omega (arith, G v k, G w o, P w o, c.ranges v w l i k o (omega (arith, G v k, G w o)));
      once = λ v w l i h j q. let k = back v h in let o = back w j in c.once v w l i k o (sym (P v k) ∙ q ∙ P w o);
      all = λ k l. let x = c.all k l in (x.0, x.1, omega (arith, G x.0 x.2, x.2), P x.0 x.2 ∙ x.3);
      falls = λ v w l h a. let k = back v h in let f = c.falls v w l k a in (omega (arith, G w f.0, f.0), omega (arith, G w f.0, G v k, f.1));
      leads = λ v w l i h j q. let k = back v h in let o = back w j in c.leads v w l i k o (sym (G v k) ∙ q ∙ G w o);
    }

-- the records of a state that speak of no next arc, or of no group and place, of another state
pub opened_arcs : {σ : State} (arcs : ℕ → ℕ) {n height : ℕ} → Opened σ n height → Opened (with_arcs σ arcs) n height
opened_arcs arcs o = record { low = o.low; mark = o.mark; back = o.back; found = o.found; is = o.is }

pub line_keep : {σ : State} (σ' : State) {height depth groups : ℕ} → σ'.path ≡ σ.path → σ'.bound ≡ σ.bound → Line σ height depth groups → Line σ' height depth groups
line_keep σ' p b l =
    record {
      low = rw p l.low;
      rise = rw p l.rise;
      first = rw p l.first;
      none = l.none;
      bound_low = rw b l.bound_low;
      bound_rise = rw b l.bound_rise;
      bound_some = l.bound_some;
      bound_first = rw b l.bound_first;
    }
