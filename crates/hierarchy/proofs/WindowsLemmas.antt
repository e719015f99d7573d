-- What classes have of their own in a window of declarations.
use Rattle.std.proofs.Common.{◌≡◌, ◌≢◌, ◌↔◌, ◌⊎◌, ◌<◌, ◌≤◌, ◌+◌, ℕ, List, Some, length, slice_get, set}
use Rattle.std.proofs.Common.{sym, ap, ◌∙◌, subst, inl, inr, arith}
use Rattle.std.specs.Prelude.{bit_or}
use Rattle.std.specs.List.{Contains}
use Rattle.std.proofs.lemmas.Bool.{cases_eq}
use Rattle.std.proofs.lemmas.List.{get_or-set_same, get_or-set_other}
use Rattle.std.proofs.lemmas.Option.{slice_get-get_or, slice_get_within}
use Rattle.built_in.specs.Keys.{NameAndType}
use Rattle.loading.proofs.PlaceLemmas.{contains_at}
use Rattle.hierarchy.specs.Hierarchies.{NumberedFamily}
use Rattle.hierarchy.specs.steps.DeclarationBits.{Has, HasKey, IsAt, IsMask, IsOwn, own_of}
use Rattle.hierarchy.specs.steps.Declarations.{AreDeclared, IsWhole}
use Rattle.hierarchy.specs.steps.HierarchyTables.{wanted_in}
use Rattle.hierarchy.specs.steps.MemberKeys.{AreNumbers}
use Rattle.hierarchy.specs.steps.Windows.{NotesFirst, Notes}
use Rattle.hierarchy.specs.declared.bits.Own.{Own}
use Rattle.hierarchy.specs.declared.declarations.Declaration.{Declaration}
use Rattle.hierarchy.specs.declared.masks.Mask.{Mask}
use Rattle.hierarchy.specs.declared.member_key.MemberKey.{MemberKey}
use Rattle.hierarchy.specs.declared.wanted.Wanted.{Wanted}
use Rattle.hierarchy.proofs.WordLemmas.{either, either_left, either_right}

-- ---- the bits of a class

module _ (rows : List Own) (class : ℕ) (row : Own) where
  pub own_same : class < length rows → own_of (set rows class row) class ≡ row
  own_same within = get_or-set_same rows class row (record { here = 0; same = 0 }) within

  pub own_other : (c : ℕ) → c ≢ class → own_of (set rows class row) c ≡ own_of rows c
  own_other c other = get_or-set_other rows class c row (record { here = 0; same = 0 }) other

-- one bit of these, where the bits of a class were added
module _ (old new : ℕ → ℕ) (class more : ℕ) (there : new class ≡ bit_or (old class) more)
    (other : (c : ℕ) → c ≢ class → new c ≡ old c) where
  pub added : (c n : ℕ) → Has (new c) n ↔ (Has (old c) n ⊎ ((c ≡ class) × Has more n))
  added c n = elim (cases_eq c class) [
    | inl same ↦
        let is : new c ≡ bit_or (old c) more =
        ap new same ∙ there ∙ ap (λ (x : ℕ). bit_or (old x) more) (sym same) in (
          λ has. elim (either (old c) more n (subst (λ (w : ℕ). Has w n) is has)) [
            | inl before ↦ inl before
            | inr this ↦ inr (same, this)
          ],
          λ has. subst (λ (w : ℕ). Has w n) (sym is) (elim has [
            | inl before ↦ either_left (old c) more n before
            | inr this ↦ either_right (old c) more n this.1
          ]),
        )
    | inr apart ↦ (
      λ has. inl (subst (λ (w : ℕ). Has w n) (other c apart) has),
      λ has. elim has [
        | inl before ↦ subst (λ (w : ℕ). Has w n) (sym (other c apart)) before
        | inr this ↦ absurd (apart this.0)
      ],
    )
  ]

module _ (rows : List Own) (class here same : ℕ) where
  pub notes_there : class < length rows → Notes rows (set rows class (record {
    here = bit_or (own_of rows class).here here;
    same = bit_or (own_of rows class).same same;
  })) class here same
  notes_there within =
      let row : Own = record {
        here = bit_or (own_of rows class).here here;
        same = bit_or (own_of rows class).same same;
      } in
      let at = own_same rows class row within in
      record {
        here = λ c n small. added (λ x. (own_of rows x).here) (λ x. (own_of (set rows class row) x).here) class here
            (ap (λ (o : Own). o.here) at) (λ x other. ap (λ (o : Own). o.here) (own_other rows class row x other)) c n;
        same = λ c n small. added (λ x. (own_of rows x).same) (λ x. (own_of (set rows class row) x).same) class same
            (ap (λ (o : Own). o.same) at) (λ x other. ap (λ (o : Own). o.same) (own_other rows class row x other)) c n;
      }

-- ---- one more declaration

module _ (declared : List Declaration) (start : ℕ) where
  pub noted_none : (rows : List Own) → ((c n : ℕ) → ¬ Has (own_of rows c).here n)
      → ((c n : ℕ) → ¬ Has (own_of rows c).same n) → NotesFirst declared start 0 rows
  noted_none rows here same = record {
    here = λ n c small within. (λ has. absurd (here c n has), λ at. absurd (omega (arith, at.1)));
    same = λ n c small within. (λ has. absurd (same c n has), λ at. absurd (omega (arith, at.2)));
  }

  module _ (count : ℕ) (e : Declaration) (at : slice_get declared count ≡ Some e) (old new : List Own)
      (length_is : length new ≡ length old) (here : ℕ) (mask : Mask) (is : mask.key ≡ e.key)
      (masks : IsMask declared start mask) (place : (n : ℕ) → n < 64 → Has here n ↔ (count ≡ start + n))
      (notes : Notes old new e.member.class here mask.same) (are : NotesFirst declared start count old) where
    stands : (n : ℕ) → n < 64 → Has mask.same n ↔ IsAt declared (start + n) (HasKey e.key)
    stands n small = subst (λ (k : MemberKey). Has mask.same n ↔ IsAt declared (start + n) (HasKey k)) is
        (masks.same n small)

    one : (x : Declaration) (p : ℕ) → p ≡ count → slice_get declared p ≡ Some x → x ≡ e
    one x p same has =
        let both : Some x ≡ Some e = sym has ∙ ap (slice_get declared) same ∙ at in cc

    pub noted_more : NotesFirst declared start (count + 1) new
    noted_more = record {
      here = λ n c small within.
          let low : c < length old = omega (arith, within, length_is) in (
            λ has. elim ((notes.here c n low).0 has) [
              | inl before ↦
                  let there = (are.here n c small low).0 before in
                  (there.0, omega (arith, there.1), there.2, there.3)
              | inr this ↦
                  let same : count ≡ start + n = (place n small).0 this.1 in
                  (e, omega (arith, same), subst (λ (p : ℕ). slice_get declared p ≡ Some e) same at, sym this.0)
            ],
            λ there. (notes.here c n low).1 (elim (cases_eq (start + n) count) [
              | inl same ↦
                  let which : there.0 ≡ e = one there.0 (start + n) same there.2 in
                  inr (sym there.3 ∙ ap (λ (x : Declaration). x.member.class) which, (place n small).1 (sym same))
              | inr other ↦ inl ((are.here n c small low).1
                  (there.0, below (start + n) other there.1, there.2, there.3))
            ]),
          );
      same = λ n c small within.
          let low : c < length old = omega (arith, within, length_is) in (
            λ has. elim ((notes.same c n low).0 has) [
              | inl before ↦
                  let there = (are.same n c small low).0 before in
                  (there.0, there.1, omega (arith, there.2), there.3, there.4, there.5)
              | inr this ↦ (count, e, omega arith, at, sym this.0, (stands n small).0 this.1)
            ],
            λ there. (notes.same c n low).1 (elim (cases_eq there.0 count) [
              | inl same ↦
                  let which : there.1 ≡ e = one there.1 there.0 same there.3 in
                  inr (
                    sym there.4 ∙ ap (λ (x : Declaration). x.member.class) which,
                    (stands n small).1
                        (subst (λ (y : Declaration). IsAt declared (start + n) (HasKey y.key)) which there.5),
                  )
              | inr other ↦ inl ((are.same n c small low).1
                  (there.0, there.1, below there.0 other there.2, there.3, there.4, there.5))
            ]),
          );
    }
      where
        below : (p : ℕ) → p ≢ count → p < count + 1 → p < count
        below p other small = omega (arith, other, small)

-- ---- as what the classes declare

module _ (h : NumberedFamily) (wanted : Wanted) (declared : List Declaration) (start count : ℕ) (rows : List Own)
    (past : length declared ≤ count) (are : AreDeclared h wanted declared)
    (noted : NotesFirst declared start count rows)
    (n : ℕ) (small : n < 64) (e : Declaration) (at : slice_get declared (start + n) ≡ Some e) (name : NameAndType)
    (numbers : AreNumbers h.texts name e.key) (whole : IsWhole h wanted declared e.key) where
  pub own_noted : (c : ℕ) → c < length rows
      → IsOwn (wanted_in wanted h.family name) c e.member.class n (own_of rows c)
  own_noted c within = record {
    here = (
      λ has.
          let there = (noted.here n c small within).0 has in
          let both : Some there.0 ≡ Some e = sym there.2 ∙ at in
          let which : there.0 ≡ e = cc in
          sym there.3 ∙ ap (λ (x : Declaration). x.member.class) which,
      λ same. (noted.here n c small within).1
          (e, omega (arith, slice_get_within declared (start + n) e at, past), at, sym same),
    );
    same = (
      λ has.
          let there = (noted.same n c small within).0 has in
          let stands = there.5 in
          let both : Some stands.0 ≡ Some e = sym stands.1 ∙ at in
          let which : stands.0 ≡ e = cc in
          let key : e.key ≡ there.1.key = ap (λ (x : Declaration). x.key) (sym which) ∙ stands.2 in
          let listed : Contains declared there.1 = contains_at declared there.0 there.1 there.3 in (
            there.1.member.index,
            ap (wanted_in wanted h.family name) (sym there.4)
                ∙ (are there.1 listed).there name (subst (AreNumbers h.texts name) key numbers),
          ),
      λ holds.
          let listed = whole name c holds.0 numbers holds.1 in
          let x = listed.0 in
          let p = listed.1.0 in
          (noted.same n c small within).1 (
            p,
            x,
            omega (arith, listed.1.1, past),
            slice_get-get_or declared p x listed.1.1 ∙ ap Some listed.1.2,
            listed.3,
            (e, at, sym listed.2),
          ),
    );
  }

-- all were noted
pub noted_past : (declared : List Declaration) (start count : ℕ) (rows : List Own) → length declared ≤ count
    → NotesFirst declared start count rows → NotesFirst declared start (length declared) rows
noted_past declared start count rows past are = record {
  here = λ n c small within. (
    λ has.
        let there = (are.here n c small within).0 has in
        (there.0, slice_get_within declared (start + n) there.0 there.2, there.2, there.3),
    λ there. (are.here n c small within).1 (there.0, omega (arith, there.1, past), there.2, there.3),
  );
  same = λ n c small within. (
    λ has.
        let there = (are.same n c small within).0 has in
        (there.0, there.1, slice_get_within declared there.0 there.1 there.3, there.3, there.4, there.5),
    λ there. (are.same n c small within).1
        (there.0, there.1, omega (arith, there.2, past), there.3, there.4, there.5),
  );
}
