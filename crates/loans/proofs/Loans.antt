-- A local array of any length is lent as a slice, shared or not, and taken back once the loan is over, for its entries lie side by side in memory.
use mathlib.Core.Path.{◌≡◌, refl, sym, ap, subst}
use mathlib.Core.List.{List, [], ◌∷◌}
use Prim.Native.Nat.{ℕ, zero, suc, ◌+◌}
use lib.Dec.{T}
use lib.ListN.{length, replicate, length-replicate}
use seplogic.Ra.Ura.{Ura}
use base.Fraction.{full_share}
use mir.Syntax.{Width, Lifetime, Ty, ty_array, int_big}
use mir.Val.{Val, vint, has_ty, WT, Fits}
use base.Logic.{SProp, ent, sep, ex, guard, via, guard_i, ex_i}
use base.Fml.{Lft, GName, Fml, fsep, feq, fat, froom, fdead, flent}
use prog.Wp.{Env}
use types.Logic.{Logic, sem}
use types.Kit.{Item, ‵, ◌⊛◌, later, ◌$◌, ◌∵◌, !, qed, by, move, keep, use1, use3, rewrite, drop, split, fsplit, fjoin, fpick, fpack, feq_l, await, updating, now as at_once, show, done}
use types.Tokens.{lent_back}
use types.Run.{Opd, forget}
use types.SemTy.{cells, Arr}
use types.Share.{parts, arr_parts}
use denote.RattleType.{RattleType}
use denote.Shadow.{shadow, pure_i}
use denote.SharingLaws.{said_shr_laws}
use denote.Lends.{lent_cut}
use denote.Copied.{Copied, each_lends}
use denote.Laws.{Typed, Is, Copy}
use denote.Memory.{cell_at, lone, part_at, mem, shares, part_of}
use denote.Array.{each, array_val, Array, Array-Typed, Array-repeat}
use denote.ArrayMemory.{Single, Array-apart, Array-whole}
use denote.Slice.{slice_val, MutSlice, ShrSlice, Room, finally, shr_slice_at, elements_shared}
use denote.Lend.{Held, lends_slice, slice_back}

-- ---- a large constant as an operand, such as the length of an array

module _ {M : Type 1} {𝓤 : Ura M} {𝓛 : Logic 𝓤} {K : Type 0} {Γ : List (Item 𝓤)} {E : Env 𝓤 𝓛.H} where
  pub big_lit : K → {w : Width} {n : ℕ} → Fits w n → Opd K 𝓛 Γ E (int_big w n) (vint w n)
  big_lit t {w} {n} z = record { go = λ Kt h. via 𝓤 (Kt (vint w n)) h (guard_i 𝓤 (Fits w n) (Kt (vint w n)) z) }

-- ---- an array of one value is of its type

each_is : (R : RattleType) (x : R.Denot) (u : Val) → Is R x (u ∷ []) → (n : ℕ) → shadow (each R.Denot R.own_val (replicate n x) (replicate n u))
each_is R x u h zero = tt
each_is R x u h (suc n) = (h, each_is R x u h n)

pub repeat_typed : (R : RattleType) → ((x : R.Denot) (vs : List Val) → Is R x vs → Typed R.mir vs) → (n : ℕ) (x : R.Denot) (u : Val) → Is R x (u ∷ [])
    → T (has_ty (ty_array (lone R.mir) n) (array_val (replicate n u))) × WT (array_val (replicate n u))
repeat_typed R typed n x u h =
    (Array-Typed R typed n (replicate n x) (array_val (replicate n u) ∷ []) (replicate n u, ((refl, length-replicate n x), each_is R x u h n))).0

-- ---- an array in memory

module _ {M : Type 1} {𝓤 : Ura M} (𝓛 : Logic 𝓤) (R : RattleType) (single : Single R.mir) (n : ℕ) (l : ℕ) where
  open 𝓛 use {H, A}

  abbrev τ : Ty
  τ = lone R.mir

  abbrev ⟦◌⟧ : Fml → SProp 𝓤
  ⟦ P ⟧ = sem 𝓛 P

  -- the array in memory, with what its entries own
  abbrev pub Lies : List R.Denot → Fml
  Lies xs = part_at (Array R n) full_share xs l 0

  -- n times one value, as `[x; n]` stores them
  pub repeated : Copy 𝓛 R → (x : R.Denot) (u : Val)
      → ent 𝓤 (sep 𝓤 ⟦ fat full_share (ty_array τ n) l 0 (array_val (replicate n u)) ⟧ ⟦ R.own_val x (u ∷ []) ⟧) ⟦ Lies (replicate n x) ⟧
  unfolding part_of
  repeated copy x u =
      qed 𝓛 (‵ (fat full_share (ty_array τ n) l 0 (array_val (replicate n u))) ∷ ‵ (R.own_val x (u ∷ [])) ∷ []) ∵
      use1 𝓛 (‵ (cell_at full_share (ty_array τ n ∷ []) (array_val (replicate n u) ∷ []) l 0)) (𝓛.laws.at_raw full_share (ty_array τ n) l 0 (array_val (replicate n u))) $
      move ! (1 ∷ []) $ use1 𝓛 (‵ ((Array R n).own_val (replicate n x) (array_val (replicate n u) ∷ []))) (Array-repeat 𝓛 R copy n x u) $
      move ! (1 ∷ 0 ∷ []) $ fjoin ! $
      fpack ! (List Val) (λ vs. fsep (cell_at full_share (ty_array τ n ∷ []) vs l 0) ((Array R n).own_val (replicate n x) vs)) (array_val (replicate n u) ∷ []) $ done !

  -- the same, of which the length alone is kept: no proof then goes through the entries of a long array
  pub some_array : Copy 𝓛 R → (x : R.Denot) (u : Val)
      → ent 𝓤 (sep 𝓤 ⟦ fat full_share (ty_array τ n) l 0 (array_val (replicate n u)) ⟧ ⟦ R.own_val x (u ∷ []) ⟧)
      (ex 𝓤 (λ (xs : List R.Denot). guard 𝓤 (length xs ≡ n) ⟦ Lies xs ⟧))
  some_array copy x u =
      via 𝓤 ⟦ Lies (replicate n x) ⟧ (repeated copy x u)
      (via 𝓤 (guard 𝓤 (length (replicate n x) ≡ n) ⟦ Lies (replicate n x) ⟧)
      (guard_i 𝓤 (length (replicate n x) ≡ n) ⟦ Lies (replicate n x) ⟧ (length-replicate n x))
      (ex_i 𝓤 (λ (xs : List R.Denot). guard 𝓤 (length xs ≡ n) ⟦ Lies xs ⟧) (replicate n x)))

  -- ---- lent as `&mut`

  abbrev pub Lent : Lifetime → Lft → List R.Denot → GName → SProp 𝓤
  Lent ℓ κ xs γ =
      sep 𝓤 ⟦ (MutSlice ℓ κ R).own_val (record { ref_ptr = (l, 0); ghost_name = γ; now = xs }) (slice_val (l, 0) n ∷ []) ⟧ (A.lent κ (Held R n l 0 γ))

  -- at the whole share, the parts of a list in memory are its cells
  whole : (xs : List R.Denot) (o : ℕ) → ◌≡◌ {A = Fml} (parts (mem R) (shares R) full_share xs l o) (cells (mem R) xs l o)
  whole [] o = refl
  whole (x ∷ xs) o = ap (λ (P : Fml). fsep (part_at R full_share x l o) P) (whole xs (o + (mem R).size))

  apart : (xs : List R.Denot) → ent 𝓤 ⟦ Lies xs ⟧ ⟦ (Arr (mem R) n).own_at xs l 0 ⟧
  apart xs =
      subst (λ (P : Fml). ent 𝓤 ⟦ Lies xs ⟧ ⟦ fsep (feq ℕ (length xs) n) P ⟧) (whole xs 0) (Array-apart 𝓛 R full_share single n xs l 0)

  together : (xs : List R.Denot) → ent 𝓤 ⟦ (Arr (mem R) n).own_at xs l 0 ⟧ ⟦ Lies xs ⟧
  together xs = subst (λ (P : Fml). ent 𝓤 ⟦ fsep (feq ℕ (length xs) n) P ⟧ ⟦ Lies xs ⟧) (whole xs 0) (Array-whole 𝓛 R full_share n xs l 0)

  pub lends : (ℓ : Lifetime) (κ : Lft) (xs : List R.Denot) → length xs ≡ n → Room R n → ent 𝓤 ⟦ Lies xs ⟧ (H.⇛ (ex 𝓤 (Lent ℓ κ xs)))
  lends ℓ κ xs long room =
      subst (λ (m : ℕ). ent 𝓤 ⟦ Lies xs ⟧
      (H.⇛ (ex 𝓤 (λ (γ : GName). sep 𝓤 ⟦ (MutSlice ℓ κ R).own_val (record { ref_ptr = (l, 0); ghost_name = γ; now = xs }) (slice_val (l, 0) m ∷ []) ⟧ (A.lent κ (Held R m l 0 γ)))))) long
      (via 𝓤 ⟦ (Arr (mem R) n).own_at xs l 0 ⟧ (apart xs)
      (qed 𝓛 (‵ ((Arr (mem R) n).own_at xs l 0) ∷ []) ∵ fsplit ! $ drop ! $ by ! (lends_slice 𝓛 R ℓ κ xs l 0 (subst (Room R) (sym long) room))))

  pub comes_back : (κ : Lft) (γ : GName) (xs : List R.Denot)
      → ent 𝓤 (sep 𝓤 (A.dead κ) (sep 𝓤 (A.lent κ (Held R n l 0 γ)) ⟦ finally R γ xs ⟧)) (H.⇛ ⟦ Lies xs ⟧)
  comes_back κ γ xs =
      qed 𝓛 (‵ (fdead κ) ∷ ‵ (flent κ (Held R n l 0 γ)) ∷ ‵ (finally R γ xs) ∷ []) ∵ updating ! $
      use3 𝓛 (later (‵ ((Arr (mem R) n).own_at xs l 0))) (slice_back 𝓛 R κ γ xs n l 0) $ await ! tt $ at_once ! $ by ! (together xs)

  -- ---- lent as `&`

  abbrev pub Shared : List R.Denot → Fml
  Shared xs = (arr_parts (shares R) n).part full_share xs l 0

  abbrev pub LentShared : Lifetime → Lft → List R.Denot → GName → SProp 𝓤
  LentShared ℓ κ xs γ =
      sep 𝓤 ⟦ (ShrSlice ℓ κ R).own_val (record { ref_ptr = (l, 0); now = xs }) (slice_val (l, 0) n ∷ []) ⟧ (A.lent κ (Shared xs))

  abbrev Reads : List R.Denot → Lft → Fml
  Reads xs = elements_shared R xs l 0

  -- an element that can be copied is lent out of the memory itself, with no token
  pub shares_out : Copied 𝓛 R → (ℓ : Lifetime) (κ : Lft) (xs : List R.Denot) → length xs ≡ n → Room R n → ent 𝓤 ⟦ Lies xs ⟧ (H.⇛ (ex 𝓤 (LentShared ℓ κ xs)))
  shares_out copied ℓ κ xs long room =
      let long_is : Fml = feq ℕ (length xs) n in
      let apart_xs : Fml = parts (mem R) (shares R) full_share xs l 0 in
      let out : ent 𝓤 ⟦ Shared xs ⟧ (sep 𝓤 ⟦ apart_xs ⟧ ⟦ long_is ⟧) = qed 𝓛 (‵ (Shared xs) ∷ []) ∵ fsplit ! $ move ! (1 ∷ 0 ∷ []) $ done ! in
      let back : ent 𝓤 (sep 𝓤 ⟦ apart_xs ⟧ ⟦ long_is ⟧) ⟦ Shared xs ⟧ =
      qed 𝓛 (‵ apart_xs ∷ ‵ long_is ∷ []) {P = ⟦ Shared xs ⟧} (move ! (1 ∷ 0 ∷ []) $ fjoin ! $ done !) in
      let twice : ent 𝓤 ⟦ long_is ⟧ (sep 𝓤 ⟦ long_is ⟧ ⟦ long_is ⟧) = (said_shr_laws long_is tt).contraction M 𝓤 𝓛 κ in
      qed 𝓛 (‵ (Lies xs) ∷ []) ∵ use1 𝓛 (‵ (Shared xs)) (Array-apart 𝓛 R full_share single n xs l 0) $ updating ! $
      use1 𝓛 (later (‵ (Reads xs κ) ⊛ (‵ long_is ⊛ ‵ (flent κ (Shared xs)))))
      (lent_cut 𝓛 (Shared xs) apart_xs long_is (Reads xs) out back twice (each_lends 𝓛 R copied full_share xs l 0) κ) $
      await ! tt $ split ! $ move ! (1 ∷ []) $ split ! $ drop ! $ at_once ! $ show ! (LentShared ℓ κ xs) 0 $ move ! (1 ∷ []) $
      pure_i ! (shr_slice_at R (record { ref_ptr = (l, 0); now = xs }) (slice_val (l, 0) n ∷ [])) (tt, (tt, tt))
      (ap (λ (m : ℕ). slice_val (l, 0) m ∷ []) (sym long), subst (Room R) (sym long) room) $ fjoin ! $ done !

  pub shared_back : (κ : Lft) (xs : List R.Denot) → ent 𝓤 (sep 𝓤 (A.dead κ) (A.lent κ (Shared xs))) (H.⇛ ⟦ Lies xs ⟧)
  shared_back κ xs =
      qed 𝓛 (‵ (fdead κ) ∷ ‵ (flent κ (Shared xs)) ∷ []) ∵ updating ! $ lent_back ! tt $ at_once ! $ keep ! (0 ∷ []) $ by ! (Array-whole 𝓛 R full_share n xs l 0)

  -- ---- and given up
  pub empties : (xs : List R.Denot) → ent 𝓤 ⟦ Lies xs ⟧ ⟦ froom (ty_array τ n) l 0 ⟧
  unfolding part_of
  empties xs =
      qed 𝓛 (‵ (Lies xs) ∷ []) ∵ fpick ! (λ vs. fsplit ! $ move ! (1 ∷ []) $ fpick ! (λ us. fsplit ! $ fsplit ! $ feq_l ! (λ e. feq_l ! (λ k.
      rewrite ! 1 (λ (ws : List Val). ‵ (cell_at full_share (ty_array τ n ∷ []) ws l 0)) e refl $ move ! (1 ∷ []) $
      use1 𝓛 (‵ (fat full_share (ty_array τ n) l 0 (array_val us))) (𝓛.laws.raw_at full_share (ty_array τ n) l 0 (array_val us)) $
      forget ! 0 refl $ keep ! (0 ∷ []) $ done !))))
