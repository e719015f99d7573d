-- One index for equal texts: what stays true as texts are asked for.
use Rattle.std.proofs.Common.{◌≡◌, ◌≢◌, ℕ, ◌<◌, ◌⊎◌, Bool, true, false, cond, ◌&&◌, eqb, arith, List, length, Option}
use Rattle.std.proofs.Common.{Some, None, slice_get, is_some, unwrap_or, refl, sym, ap, ◌∙◌, inl, inr, Bor}
use Rattle.std.specs.Str.{bytes_eq}
use Rattle.std.specs.declared.cmp.Ordering.{Ordering}
use Rattle.std.specs.Ordering.{nat_cmp, is_eq, ordering_then}
use Rattle.std.specs.Cmp.{tied_then}
use Rattle.std.proofs.Math.Bool.{and-false}
use Rattle.std.specs.Cmp.Lexicographic.{slice_cmp}
use Rattle.std.specs.BTreeMap as tree
use Rattle.std.proofs.Math.ListN.{set, length-set}
use Rattle.std.proofs.lemmas.List.{get_or-set_same, get_or-set_other}
use Rattle.std.proofs.lemmas.Option.{slice_get_within}
use Rattle.std.proofs.lemmas.Bool.{eqb-true}
use Rattle.std.proofs.lemmas.Bool.Decides.{nat_tests, Decides-eqb, same_from_decides}
use Rattle.std.proofs.lemmas.Slice.Eq.{bytes_eq-Decides}
use Rattle.std.proofs.lemmas.Map.Text.{is_eq-slice_cmp}
use Rattle.classfile.specs.declared.constant.Constant.{Constant}
use Rattle.classfile.specs.Lookup.{utf8_in, utf8_of}
use Rattle.classfile.specs.reading.LookupTests.{has_utf8, equal_utf8s, same_utf8}
use Rattle.classfile.specs.reading.Earlier.{Utf8Map, utf8_hash, find_utf8, find_after, first_of, AreFirsts}

-- a test says which
either_way : (b : Bool) → (b ≡ true) ⊎ (b ≡ false)
either_way true = inl refl
either_way false = inr refl

equal_to_itself : (text : Option (List ℕ)) → equal_utf8s text text ≡ true
equal_to_itself None = refl
equal_to_itself (Some t) = (bytes_eq-Decides t t).1 refl

within_by : (pool : List Constant) (index : ℕ) (o : Option Constant) → slice_get pool index ≡ o
    → is_some (utf8_in o) ≡ true
    → index < length pool
within_by pool index None e h = absurd cc
within_by pool index (Some c) e h = slice_get_within pool index c e

-- a text stands within the pool
pub text_is_within : (pool : List Constant) (index : ℕ) → has_utf8 pool index ≡ true → index < length pool
unfolding has_utf8 utf8_of
text_is_within pool index h = within_by pool index (slice_get pool index) refl h

-- an index names the text that it names
pub same_index : (pool : List Constant) (one other : ℕ) → one ≡ other → same_utf8 pool one other ≡ true
unfolding same_utf8
same_index pool one other same = rw (← same) (equal_to_itself (utf8_of pool one))

-- ---- the map by texts

-- the order of its keys
abbrev pub text_cmp : ℕ × Bor (List ℕ) → ℕ × Bor (List ℕ) → Ordering
text_cmp x y = ordering_then (nat_cmp x.0 y.0) (slice_cmp nat_cmp x.1.now y.1.now)

pub equal_numbers : (a b : ℕ) → is_eq (nat_cmp a b) ≡ eqb a b
equal_numbers a b = grind (arith, nat_tests)

hashes_and_texts : (a b : List ℕ) → (eqb (utf8_hash a) (utf8_hash b) && bytes_eq a b) ≡ bytes_eq a b
hashes_and_texts a b =
    elim (either_way (bytes_eq a b)) [
      | inl same ↦
          let t : a ≡ b = (bytes_eq-Decides a b).0 same in
          let h : eqb (utf8_hash a) (utf8_hash b) ≡ true =
          (Decides-eqb (utf8_hash a) (utf8_hash b)).1 (ap utf8_hash t) in
          rw (h, same) refl
      | inr differ ↦ rw differ (and-false (eqb (utf8_hash a) (utf8_hash b)))
    ]

equal_keys : (a b : List ℕ) → is_eq (ordering_then (nat_cmp (utf8_hash a) (utf8_hash b)) (slice_cmp nat_cmp a b))
    ≡ bytes_eq a b
equal_keys a b =
    sym (tied_then (nat_cmp (utf8_hash a) (utf8_hash b)) (slice_cmp nat_cmp a b))
    ∙ rw (equal_numbers (utf8_hash a) (utf8_hash b), is_eq-slice_cmp a b) (hashes_and_texts a b)

-- a new text in the map
pub inserted_is_found : (old new : Utf8Map) (hash : ℕ) (key : Bor (List ℕ)) (index : ℕ) → hash ≡ utf8_hash key.now
    → find_utf8 old key.now ≡ None → tree.Updates text_cmp old new (hash, key) (Some index)
    → (other : List ℕ) → find_utf8 new other ≡ find_after (find_utf8 old) key.now index other
inserted_is_found old new hash key index hashed none updates other =
    let text = key.now in
    let first : unwrap_or (find_utf8 old text) index ≡ index = rw none refl in
    let same : is_eq (ordering_then (nat_cmp hash (utf8_hash other)) (slice_cmp nat_cmp text other))
    ≡ bytes_eq text other =
    rw hashed (equal_keys text other) in
    updates.0 (utf8_hash other, record { ref_ptr = (0, 0); now = other })
    ∙ ap (λ (b : Bool). cond b (Some index) (find_utf8 old other)) same
    ∙ ap (λ (n : ℕ). cond (bytes_eq text other) (Some n) (find_utf8 old other)) (sym first)

-- the first index of a text, which is found from then on
pub text_is_found : (find after : List ℕ → Option ℕ) (text : List ℕ) (index : ℕ)
    → ((other : List ℕ) → after other ≡ find_after find text index other)
    → after text ≡ Some (unwrap_or (find text) index)
text_is_found find after text index h =
    let same : bytes_eq text text ≡ true = (bytes_eq-Decides text text).1 refl in
    h text ∙ rw same refl

first_is_text : (pool : List Constant) (find : List ℕ → Option ℕ) (text : List ℕ) (index first : ℕ) (o : Option ℕ)
    → find text ≡ o
    → ((n : ℕ) → find text ≡ Some n → utf8_of pool n ≡ Some text) → utf8_of pool index ≡ Some text
    → first ≡ unwrap_or o index
    → utf8_of pool first ≡ Some text
first_is_text pool find text index first None e found at is = rw is at
first_is_text pool find text index first (Some n) e found at is = rw is (found n e)

found_after : (pool : List Constant) (find after : List ℕ → Option ℕ) (text : List ℕ) (index first : ℕ) → first
    ≡ unwrap_or (find text) index
    → ((other : List ℕ) → after other ≡ find_after find text index other) → utf8_of pool first ≡ Some text
    → ((other : List ℕ) (n : ℕ) → find other ≡ Some n → utf8_of pool n ≡ Some other)
    → (other : List ℕ) (n : ℕ) → after other ≡ Some n → utf8_of pool n ≡ Some other
found_after pool find after text index first is h at found other n e =
    elim (either_way (bytes_eq text other)) [
      | inl same ↦
          let t : text ≡ other = (bytes_eq-Decides text other).0 same in
          let one : find_after find text index other ≡ Some first = rw same (rw (sym is) refl) in
          let two : Some first ≡ Some n = sym one ∙ sym (h other) ∙ e in
          let three : first ≡ n = cc in
          rw (← three, ← t) at
      | inr differ ↦
          let one : find_after find text index other ≡ find other = rw differ refl in
          found other n (sym one ∙ sym (h other) ∙ e)
    ]

stays_found : (find after : List ℕ → Option ℕ) (text : List ℕ) (index : ℕ)
    → ((other : List ℕ) → after other ≡ find_after find text index other)
    → (other : List ℕ) (n : ℕ) → find other ≡ Some n → after other ≡ Some n
stays_found find after text index h other n e =
    elim (either_way (bytes_eq text other)) [
      | inl same ↦
          let t : text ≡ other = (bytes_eq-Decides text other).0 same in
          let old : find text ≡ Some n = rw t e in
          let one : find_after find text index other ≡ Some n = rw (same, old) refl in
          h other ∙ one
      | inr differ ↦
          let one : find_after find text index other ≡ find other = rw differ refl in
          h other ∙ one ∙ e
    ]

-- the first index, noted at the index that was asked for
pub firsts_after : (pool : List Constant) (firsts : List (Option ℕ)) (find after : List ℕ → Option ℕ) (text : List ℕ)
    (index first : ℕ)
    → AreFirsts pool firsts find
    → utf8_of pool index ≡ Some text → first ≡ unwrap_or (find text) index → index < length firsts
    → ((other : List ℕ) → after other ≡ find_after find text index other)
    → AreFirsts pool (set firsts index (Some first)) after
firsts_after pool firsts find after text index first kept at is inside h =
    let its : utf8_of pool first ≡ Some text =
    first_is_text pool find text index first (find text) refl (λ n. kept.found text n) at is in
    let now : after text ≡ Some first = text_is_found find after text index h ∙ ap (λ (n : ℕ). Some n) (sym is) in
    record {
      count = length-set firsts index (Some first) ∙ kept.count;
      found = found_after pool find after text index first is h its kept.found;
      noted = λ i n e. elim (either_way (eqb i index)) [
        | inl same ↦
            let k : i ≡ index = eqb-true i index same in
            let here : first_of (set firsts index (Some first)) index
            ≡ Some first = get_or-set_same firsts index (Some first) None inside in
            let there : first_of (set firsts index (Some first)) index ≡ Some n = rw k at e in
            let both_true : Some first ≡ Some n = sym here ∙ there in
            let m : first ≡ n = cc in
            (text, (rw k at, rw (← m) now))
        | inr differ ↦
            let k : i ≢ index = (λ (q : i ≡ index). let t : eqb i index ≡ true = (Decides-eqb i index).1 q in cc) in
            let before : first_of firsts i ≡ Some n = sym (get_or-set_other firsts index i (Some first) None k) ∙ e in
            let old = kept.noted i n before in
            (old.0, (old.1.0, stays_found find after text index h old.0 n old.1.1))
      ];
    }

-- Two indices have one first index exactly if they have one text.
pub same_first : (pool : List Constant) (firsts : List (Option ℕ)) (find : List ℕ → Option ℕ) (i j a b : ℕ)
    → AreFirsts pool firsts find
    → first_of firsts i ≡ Some a → first_of firsts j ≡ Some b → eqb a b ≡ same_utf8 pool i j
unfolding same_utf8
same_first pool firsts find i j a b kept ei ej =
    let one = kept.noted i a ei in
    let two = kept.noted j b ej in
    let texts : same_utf8 pool i j ≡ bytes_eq one.0 two.0 = rw (one.1.0, two.1.0) refl in
    let there : a ≡ b → one.0 ≡ two.0 = (λ (e : a ≡ b).
    let x : utf8_of pool a ≡ Some one.0 = kept.found one.0 a one.1.1 in
    let y : utf8_of pool b ≡ Some two.0 = kept.found two.0 b two.1.1 in
    let z : utf8_of pool a ≡ Some two.0 = rw e y in
    let w : Some one.0 ≡ Some two.0 = sym x ∙ z in
    cc) in
    let back : one.0 ≡ two.0 → a ≡ b = (λ (e : one.0 ≡ two.0).
    let x : find two.0 ≡ Some a = rw e at one.1.1 in
    let w : Some a ≡ Some b = sym x ∙ two.1.1 in
    cc) in
    let decides = bytes_eq-Decides one.0 two.0 in
    let same : eqb a b ≡ bytes_eq one.0 two.0 = same_from_decides {P = a ≡ b} (eqb a b) (bytes_eq one.0 two.0)
    (Decides-eqb a b) (
      λ e.
          back (decides.0 e),
      λ e. decides.1 (there e),
    ) in
    same ∙ sym texts
