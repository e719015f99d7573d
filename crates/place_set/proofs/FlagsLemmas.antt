-- Flags of indices by row, beside the places that they flag.
use Rattle.std.proofs.Common.{◌≡◌, ◌∙◌, ◌⊎◌, ◌↔◌, inl, inr, ℕ, ◌+◌, ◌<◌, ◌≤◌, ◌==◌, Bool, true, false, IsTrue}
use Rattle.std.proofs.Common.{List, [], ◌∷◌, ◌++◌, length, get_or, set, Some, slice_get, Vec, Global, refl}
use Rattle.std.proofs.Common.{◌-◌, sym, ap, subst, arith, eqb-true, eq-eqb, if◌then◌else◌}
use Rattle.std.specs.List.{Contains}
use Rattle.std.proofs.Math.ListN.{get_or-map}
use Rattle.std.proofs.lemmas.Bool.{cases_lt}
use Rattle.std.proofs.lemmas.List.{length_push, length-map, map-set, get_or_default, get_or_append_left}
use Rattle.std.proofs.lemmas.List.{get_or_push, get_or_past}
use Rattle.std.proofs.lemmas.List.Elements.{Contains-push, Contains-push_cases, Contains-append_left}
use Rattle.std.proofs.lemmas.Option.{slice_get-get_or, slice_get_within, get_or_from_slice_get}
use Rattle.place_set.proofs.ListLemmas.{tested, get_or-slice_set}
use Rattle.place_set.specs.declared.set.Place.{Place}
use Rattle.place_set.specs.Distinct.{AreDistinct}
use Rattle.place_set.specs.steps.Flags.{rows_of, flags_in, is_flagged, HasRoom, Sets, AreFlags}

abbrev pub Rows : Type 0
Rows = List (Vec Bool Global)

-- no more is flagged than was
abbrev pub FlagSame : Rows → Rows → Type 0
FlagSame old new = (x : Place) → is_flagged (rows_of new) x ≡ is_flagged (rows_of old) x

-- ---- rows

pub length-rows_of : (rows : Rows) → length (rows_of rows) ≡ length rows
length-rows_of rows = length-map rows (λ (row : Vec Bool Global). row.items)

pub row_read : (rows : Rows) (c : ℕ) (row : Vec Bool Global) → c < length rows → row ≡ get_or rows c row
    → row.items ≡ get_or (rows_of rows) c []
row_read rows c row low is =
    ap (λ (r : Vec Bool Global). r.items) is ∙ sym (get_or-map (λ (r : Vec Bool Global). r.items) rows c row)
    ∙ get_or_default (rows_of rows) c row.items [] (omega (arith, length-rows_of rows))

-- the flags after one row has changed
set_reads : (rows : Rows) (c : ℕ) (new : Vec Bool Global) (x : Place) → c < length rows
    → is_flagged (rows_of (set rows c new)) x
    ≡ (if x.row == c then flags_in new.items x.index else is_flagged (rows_of rows) x)
set_reads rows c new x low = elim (tested (x.row == c)) [
  | inl e ↦ rw e (ap (λ (r : List Bool). flags_in r x.index) (rw e at reads))
  | inr e ↦ rw e (ap (λ (r : List Bool). flags_in r x.index) (rw e at reads))
]
  where
    reads : get_or (rows_of (set rows c new)) x.row []
        ≡ (if x.row == c then new.items else get_or (rows_of rows) x.row [])
    reads = ap (λ (g : List (List Bool)). get_or g x.row []) (map-set (λ (r : Vec Bool Global). r.items) rows c new)
        ∙ get_or-slice_set (rows_of rows) c x.row new.items [] (omega (arith, length-rows_of rows))

pub row_kept : (rows : Rows) (c : ℕ) (row new : Vec Bool Global) → c < length rows → row ≡ get_or rows c row
    → ((n : ℕ) → flags_in new.items n ≡ flags_in row.items n) → FlagSame rows (set rows c new)
row_kept rows c row new low is same x = elim (tested (x.row == c)) [
  | inl e ↦
      let here : x.row ≡ c = eqb-true x.row c e in
      set_reads rows c new x low ∙ rw e (same x.index ∙ ap (λ (r : List Bool). flags_in r x.index)
      (row_read rows c row low is ∙ ap (λ i. get_or (rows_of rows) i []) (sym here)))
  | inr e ↦ set_reads rows c new x low ∙ rw e refl
]

-- there is room where the changed row has some
pub room_kept : (rows : Rows) (place : Place) (new : Vec Bool Global) → place.row < length rows
    → place.index < length new.items → HasRoom (rows_of (set rows place.row new)) place
room_kept rows place new low room =
    let row : get_or (rows_of (set rows place.row new)) place.row [] ≡ new.items =
    ap (λ (g : List (List Bool)). get_or g place.row [])
    (map-set (λ (r : Vec Bool Global). r.items) rows place.row new)
    ∙ get_or-slice_set (rows_of rows) place.row place.row new.items [] (omega (arith, length-rows_of rows))
    ∙ ap (λ b. if b then new.items else get_or (rows_of rows) place.row []) (eq-eqb place.row place.row refl) in
    omega (arith, ap length row)

-- what has room is in a row that is there
pub row_there : (rows : Rows) (place : Place) → HasRoom (rows_of rows) place → place.row < length rows
row_there rows place room = elim (cases_lt place.row (length rows)) [
  | inl less ↦ less
  | inr high ↦ absurd (let none = ap length
      (get_or_past (rows_of rows) place.row [] (omega (arith, length-rows_of rows))) in omega (arith, none, room))
]

same_place : (x y : Place) → x.row ≡ y.row → x.index ≡ y.index → x ≡ y
same_place x y p q = λ i. record { row = p i; index = q i }

pub row_flagged : (rows : Rows) (place : Place) (row new : Vec Bool Global) → HasRoom (rows_of rows) place
    → row ≡ get_or rows place.row row → new.items ≡ set row.items place.index true
    → Sets (rows_of rows) place (rows_of (set rows place.row new))
row_flagged rows place row new room is flagged x = (there, back)
  where
    low : place.row < length rows
    low = row_there rows place room

    row_is : row.items ≡ get_or (rows_of rows) place.row []
    row_is = row_read rows place.row row low is

    index_in : place.index < length row.items
    index_in = omega (arith, ap length row_is, room)

    new_reads : (n : ℕ) → flags_in new.items n ≡ (if n == place.index then true else flags_in row.items n)
    new_reads n = ap (λ (r : List Bool). flags_in r n) flagged
        ∙ get_or-slice_set row.items place.index n true false index_in

    old_reads : x.row ≡ place.row → flags_in row.items x.index ≡ is_flagged (rows_of rows) x
    old_reads here = ap (λ (r : List Bool). flags_in r x.index)
        (row_is ∙ ap (λ c. get_or (rows_of rows) c []) (sym here))

    there : is_flagged (rows_of (set rows place.row new)) x ≡ true
        → (is_flagged (rows_of rows) x ≡ true) ⊎ (x ≡ place)
    there h = elim (tested (x.row == place.row)) [
      | inl e ↦
          let here : x.row ≡ place.row = eqb-true x.row place.row e in
          let read : flags_in new.items x.index ≡ true =
          ap (λ b. if b then flags_in new.items x.index else is_flagged (rows_of rows) x) (sym e)
          ∙ sym (set_reads rows place.row new x low) ∙ h in
          elim (tested (x.index == place.index)) [
            | inl q ↦ inr (same_place x place here (eqb-true x.index place.index q))
            | inr q ↦ inl (sym (old_reads here)
                ∙ ap (λ b. if b then true else flags_in row.items x.index) (sym q) ∙ sym (new_reads x.index) ∙ read)
          ]
      | inr e ↦ inl (ap (λ b. if b then flags_in new.items x.index else is_flagged (rows_of rows) x) (sym e)
          ∙ sym (set_reads rows place.row new x low) ∙ h)
    ]

    back : (is_flagged (rows_of rows) x ≡ true) ⊎ (x ≡ place)
        → is_flagged (rows_of (set rows place.row new)) x ≡ true
    back (inl was) = set_reads rows place.row new x low ∙ elim (tested (x.row == place.row)) [
      | inl e ↦
          let here : x.row ≡ place.row = eqb-true x.row place.row e in
          ap (λ b. if b then flags_in new.items x.index else is_flagged (rows_of rows) x) e
          ∙ new_reads x.index ∙ elim (tested (x.index == place.index)) [
            | inl q ↦ ap (λ b. if b then true else flags_in row.items x.index) q
            | inr q ↦ ap (λ b. if b then true else flags_in row.items x.index) q ∙ old_reads here ∙ was
          ]
      | inr e ↦ ap (λ b. if b then flags_in new.items x.index else is_flagged (rows_of rows) x) e ∙ was
    ]
    back (inr same) =
        set_reads rows place.row new x low
        ∙ ap (λ b. if b then flags_in new.items x.index else is_flagged (rows_of rows) x)
        (eq-eqb x.row place.row (ap (λ (y : Place). y.row) same))
        ∙ new_reads x.index
        ∙ ap (λ b. if b then true else flags_in row.items x.index)
        (eq-eqb x.index place.index (ap (λ (y : Place). y.index) same))

-- ---- the flags of places

pub flag_tells : (rows : Rows) (places now : List Place) (x : Place) (b : Bool) → places ≡ now
    → AreFlags rows places → b ≡ is_flagged (rows_of rows) x → IsTrue b ↔ Contains now x
flag_tells rows places now x b same are read =
    subst (λ (ns : List Place). IsTrue b ↔ Contains ns x) same
    (λ h. (are.flagged x).0 (sym read ∙ h), λ has. read ∙ (are.flagged x).1 has)

pub flags_kept : (old new : Rows) (places : List Place) → FlagSame old new → AreFlags old places
    → AreFlags new places
flags_kept old new places same are = record {
  flagged = λ x. (λ h. (are.flagged x).0 (sym (same x) ∙ h), λ has. same x ∙ (are.flagged x).1 has);
  distinct = are.distinct;
}

distinct_push : (places : List Place) (place : Place) → AreDistinct places → (Contains places place → ⊥)
    → AreDistinct (places ++ place ∷ [])
distinct_push places place distinct absent i j x at_i at_j =
    elim (cases_lt i (length places)) [
      | inl low ↦ elim (cases_lt j (length places)) [
        | inl less ↦ distinct i j x (old i low at_i) (old j less at_j)
        | inr high ↦ absurd (absent (clash i j low high at_i at_j))
      ]
      | inr up ↦ elim (cases_lt j (length places)) [
        | inl less ↦ absurd (absent (clash j i less up at_j at_i))
        | inr high ↦ omega (arith, within i at_i, within j at_j)
      ]
    ]
  where
    within : (k : ℕ) → slice_get (places ++ place ∷ []) k ≡ Some x → k < length places + 1
    within k at = omega (arith, slice_get_within (places ++ place ∷ []) k x at, length_push places place)

    old : (k : ℕ) → k < length places → slice_get (places ++ place ∷ []) k ≡ Some x → slice_get places k ≡ Some x
    old k low at =
        slice_get-get_or places k x low
        ∙ ap (λ y. Some y) (sym (get_or_append_left places (place ∷ []) x k low)
        ∙ get_or_from_slice_get (places ++ place ∷ []) k x x at)

    last : (k : ℕ) → length places ≤ k → slice_get (places ++ place ∷ []) k ≡ Some x → place ≡ x
    last k high at =
        sym (get_or_push places place x k (omega (arith, within k at)))
        ∙ get_or_from_slice_get (places ++ place ∷ []) k x x at

    clash : (k l : ℕ) → k < length places → length places ≤ l → slice_get (places ++ place ∷ []) k ≡ Some x
        → slice_get (places ++ place ∷ []) l ≡ Some x → Contains places place
    clash k l low high at_k at_l =
        subst (λ y. Contains places y) (sym (last l high at_l))
        (k, low, get_or_from_slice_get places k x x (old k low at_k))

pub flags_set : (old mid new : Rows) (places more : List Place) (place : Place) → FlagSame old mid
    → Sets (rows_of mid) place (rows_of new) → is_flagged (rows_of old) place ≡ false → more ≡ places ++ place ∷ []
    → AreFlags old places → AreFlags new more
flags_set old mid new places more place same sets unflagged pushed are = rw pushed (record {
  flagged = λ x. (there x, back x);
  distinct = distinct_push places place are.distinct
      (λ has. absurd (let clash : false ≡ true = sym unflagged ∙ (are.flagged place).1 has in cc));
})
  where
    there : (x : Place) → is_flagged (rows_of new) x ≡ true → Contains (places ++ place ∷ []) x
    there x h = elim ((sets x).0 h) [
      | inl was ↦ Contains-append_left places (place ∷ []) x ((are.flagged x).0 (sym (same x) ∙ was))
      | inr e ↦ subst (λ y. Contains (places ++ place ∷ []) y) (sym e) (Contains-push places place)
    ]

    back : (x : Place) → Contains (places ++ place ∷ []) x → is_flagged (rows_of new) x ≡ true
    back x has = elim (Contains-push_cases places place x has) [
      | inl old_one ↦ (sets x).1 (inl (same x ∙ (are.flagged x).1 old_one))
      | inr e ↦ (sets x).1 (inr (sym e))
    ]
