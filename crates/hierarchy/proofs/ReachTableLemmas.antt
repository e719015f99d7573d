-- Rows of reaches: one more key, one more reach, and what reaches a place.
use Rattle.std.proofs.Common.{◌≡◌, ℕ, zero, suc, ◌<◌, ◌≤◌, Bool, true, false, cond, List, [], ◌∷◌, ◌++◌, length, Option}
use Rattle.std.proofs.Common.{Some, None, Vec, Global, slice_get, fold, ltb, leb, get_or, refl, sym, ap, ◌∙◌, arith}
use Rattle.std.proofs.Common.{slice_set}
use Rattle.std.proofs.lemmas.Bool.{ltb-true, lt-ltb, leb-true, leb-false, le-leb}
use Rattle.std.proofs.lemmas.List.{get_or_default}
use Rattle.std.proofs.lemmas.Option.{slice_get_within, slice_get_read, get_or_from_slice_get}
use Rattle.loading.proofs.PlaceLemmas.{kept_at, last_at}
use Rattle.hierarchy.specs.steps.MemberKeys.{same_key}
use Rattle.hierarchy.specs.steps.Reaches.{reaches_in, row_at, reach_after, reaching, GoUp, last_nearest, noted_in}
use Rattle.hierarchy.specs.declared.member_key.MemberKey.{MemberKey}
use Rattle.hierarchy.specs.declared.member.DeclaredMember.{DeclaredMember}
use Rattle.hierarchy.specs.declared.reach_table.Reach.{Reach}
use Rattle.hierarchy.proofs.MemberKeysLemmas.{key_is, same_key_itself}
use Rattle.hierarchy.proofs.RowLemmas.{set_here, set_else}

length-push : {A : Type 0} (xs : List A) (y : A) → length (xs ++ y ∷ []) ≡ suc (length xs)
length-push [] y = refl
length-push (x ∷ xs) y = ap suc (length-push xs y)

-- ---- one more key

module _ (find after : MemberKey → Option ℕ) (rows new : List (Vec Reach Global)) (key : MemberKey)
    (row : Vec Reach Global) (none : find key ≡ None)
    (updates : (q : MemberKey) → after q ≡ cond (same_key key q) (Some (length rows)) (find q))
    (pushed : new ≡ rows ++ row ∷ [])
    (within : (q : MemberKey) (n : ℕ) → find q ≡ Some n → n < length rows) where
  old_row : (o : Option ℕ) → ((n : ℕ) → o ≡ Some n → n < length rows) → row_at new o ≡ row_at rows o
  old_row None small = refl
  old_row (Some n) small = rw pushed (by (slice_get rows n) refl)
    where
      by : (o : Option (Vec Reach Global)) → slice_get rows n ≡ o
          → reaches_in (slice_get (rows ++ row ∷ []) n) ≡ reaches_in (slice_get rows n)
      by (Some v) at = ap reaches_in (kept_at rows row v n at ∙ sym at)
      by None at = absurd (nothing_there rows n (small n refl) at)
        where
          nothing_there : {A : Type 0} (xs : List A) (i : ℕ) → i < length xs → slice_get xs i ≡ None → ⊥
          nothing_there [] i h e = omega (arith, h)
          nothing_there (x ∷ xs) zero h e = cc
          nothing_there (x ∷ xs) (suc i) h e = nothing_there xs i (omega (arith, h)) e

  pub rows_kept : row.items ≡ [] → (q : MemberKey) → row_at new (after q) ≡ row_at rows (find q)
  rows_kept empty q = by (same_key key q) refl
    where
      by : (b : Bool) → same_key key q ≡ b → row_at new (after q) ≡ row_at rows (find q)
      by false e = ap (row_at new) (updates q ∙ rw e refl) ∙ old_row (find q) (within q)
      by true e =
          let is : after q ≡ Some (length rows) = updates q ∙ rw e refl in
          let absent : find q ≡ None = ap find (sym (key_is key q e)) ∙ none in
          let last : slice_get new (length rows) ≡ Some row = rw pushed (last_at rows row) in
          ap (row_at new) is ∙ ap reaches_in last ∙ empty ∙ ap (row_at rows) (sym absent)

  pub numbers_within : (q : MemberKey) (n : ℕ) → after q ≡ Some n → n < length new
  numbers_within q n is = by (same_key key q) refl
    where
      long : length new ≡ suc (length rows)
      long = ap length pushed ∙ length-push rows row

      by : (b : Bool) → same_key key q ≡ b → n < length new
      by true e =
          let same : Some (length rows) ≡ Some n = sym (updates q ∙ rw e refl) ∙ is in
          let number : length rows ≡ n = cc in omega (arith, long, number)
      by false e = omega (arith, long, within q n (sym (updates q ∙ rw e refl) ∙ is))

  pub numbers_apart : ((a b : MemberKey) (n : ℕ) → find a ≡ Some n → find b ≡ Some n → a ≡ b)
      → (a b : MemberKey) (n : ℕ) → after a ≡ Some n → after b ≡ Some n → a ≡ b
  numbers_apart apart a b n first second = by (same_key key a) (same_key key b) refl refl
    where
      at_end : (q : MemberKey) → same_key key q ≡ true → after q ≡ Some n → length rows ≡ n
      at_end q e is = let same : Some (length rows) ≡ Some n = sym (updates q ∙ rw e refl) ∙ is in cc

      before : (q : MemberKey) → same_key key q ≡ false → after q ≡ Some n → find q ≡ Some n
      before q e is = sym (updates q ∙ rw e refl) ∙ is

      by : (x y : Bool) → same_key key a ≡ x → same_key key b ≡ y → a ≡ b
      by true true e f = sym (key_is key a e) ∙ key_is key b f
      by true false e f = absurd (omega (arith, at_end a e first, within b n (before b f second)))
      by false true e f = absurd (omega (arith, at_end b f second, within a n (before a e first)))
      by false false e f = apart a b n (before a e first) (before b f second)

-- ---- one more reach

module _ (find : MemberKey → Option ℕ) (rows : List (Vec Reach Global)) (key : MemberKey) (number : ℕ)
    (old row : Vec Reach Global) (reach : Reach) (there : find key ≡ Some number)
    (item : slice_get rows number ≡ Some old)
    (apart : (a b : MemberKey) (n : ℕ) → find a ≡ Some n → find b ≡ Some n → a ≡ b)
    (is : row.items ≡ noted_in old.items reach) where
  pub noted_by_key : (q : MemberKey) → row_at (slice_set rows number row) (find q)
      ≡ cond (same_key key q) (noted_in (row_at rows (find q)) reach) (row_at rows (find q))
  noted_by_key q = by (same_key key q) refl
    where
      other : same_key key q ≡ false → (o : Option ℕ) → find q ≡ o
          → row_at (slice_set rows number row) o ≡ row_at rows o
      other e None at = refl
      other e (Some n) at = ap reaches_in (set_else rows number n row differ)
        where
          differ : ¬ (number ≡ n)
          differ same =
              let equal : key ≡ q = apart key q n (there ∙ ap Some same) at in
              let clash : false ≡ true = sym e ∙ ap (same_key key) (sym equal) ∙ same_key_itself key in absurd cc

      by : (b : Bool) → same_key key q ≡ b → row_at (slice_set rows number row) (find q)
          ≡ cond b (noted_in (row_at rows (find q)) reach) (row_at rows (find q))
      by true e =
          let found : find q ≡ Some number = ap find (sym (key_is key q e)) ∙ there in
          let before : row_at rows (find q) ≡ old.items = ap (row_at rows) found ∙ ap reaches_in item in
          let within : number < length rows = slice_get_within rows number old item in
          ap (row_at (slice_set rows number row)) found ∙ ap reaches_in (set_here rows number row within) ∙ is
          ∙ ap (λ (l : List Reach). noted_in l reach) (sym before)
      by false e = other e (find q) refl

-- ---- what reaches a place

abbrev pub from_last : Option DeclaredMember → List Reach → ℕ → Option DeclaredMember
from_last before row zero = before
from_last before row (suc n) = last_nearest row (suc n)

none_after : (row : List Reach) (place : ℕ) (before : Option DeclaredMember)
    → ((i : ℕ) (a : Reach) → slice_get row i ≡ Some a → place < a.from)
    → fold (reach_after place) before row ≡ before
none_after [] place before beyond = refl
none_after (x ∷ xs) place before beyond =
    rw (lt-ltb place x.from (beyond 0 x refl)) (none_after xs place before (λ i a at. beyond (suc i) a at))

pub reaching_from : (row : List Reach) (place count : ℕ) (before : Option DeclaredMember) → count ≤ length row
    → ((i : ℕ) (a : Reach) → i < count → slice_get row i ≡ Some a → a.from ≤ place)
    → ((i : ℕ) (a : Reach) → count ≤ i → slice_get row i ≡ Some a → place < a.from)
    → fold (reach_after place) before row ≡ from_last before row count
reaching_from row place zero before small up beyond =
    none_after row place before (λ i a at. beyond i a (omega arith) at)
reaching_from [] place (suc n) before small up beyond = absurd (omega (arith, small))
reaching_from (x ∷ xs) place (suc n) before small up beyond =
    rw (not_before (ltb place x.from) refl)
    (reaching_from xs place n x.nearest (omega (arith, small)) (λ i a less at. up (suc i) a (omega (arith, less)) at)
    (λ i a more at. beyond (suc i) a (omega (arith, more)) at) ∙ next n)
  where
    not_before : (b : Bool) → ltb place x.from ≡ b → ltb place x.from ≡ false
    not_before false e = e
    not_before true e = absurd (omega (arith, ltb-true place x.from e, up 0 x (omega arith) refl))

    next : (m : ℕ) → from_last x.nearest xs m ≡ last_nearest (x ∷ xs) (suc m)
    next zero = refl
    next (suc m) = refl

pub reaching_is : (row : List Reach) (place count : ℕ) → count ≤ length row
    → ((i : ℕ) (d : Reach) → 0 ≤ i → i < count → leb (get_or row i d).from place ≡ true)
    → ((i : ℕ) (d : Reach) → count ≤ i → i < length row → leb (get_or row i d).from place ≡ false)
    → last_nearest row count ≡ reaching row place
reaching_is row place count small up beyond =
    sym (reaching_from row place count None small
    (λ i a less at. leb-true a.from place (ap (λ (r : Reach). leb r.from place)
    (sym (get_or_from_slice_get row i a a at))
    ∙ up i a (omega arith) less))
    (λ i a more at. leb-false a.from place
    (ap (λ (r : Reach). leb r.from place) (sym (get_or_from_slice_get row i a a at))
    ∙ beyond i a more (slice_get_within row i a at))) ∙ none_is count)
  where
    none_is : (m : ℕ) → from_last None row m ≡ last_nearest row m
    none_is zero = refl
    none_is (suc m) = refl

pub parted : (row : List Reach) (place : ℕ) → GoUp row → (i j : ℕ) (d : Reach) → i ≤ j → j < length row
    → leb (get_or row j d).from place ≡ true → leb (get_or row i d).from place ≡ true
parted row place up i j d before small e =
    let later = leb-true (get_or row j d).from place e in
    let lower = up i j (get_or row i d) (get_or row j d) before
    (slice_get_read row (length row) i (get_or row i d) refl (omega (arith, before, small))
    (get_or_default row i d (get_or row i d) (omega (arith, before, small))))
    (slice_get_read row (length row) j (get_or row j d) refl small (get_or_default row j d (get_or row j d) small)) in
    le-leb (get_or row i d).from place (omega (arith, later, lower))
