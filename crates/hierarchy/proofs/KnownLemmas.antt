-- What the bits of a declaration tell, from class to class.
use Rattle.std.proofs.Common.{◌≡◌, ◌≢◌, ◌↔◌, ◌<◌, ℕ, List, [], ◌∷◌, ◌++◌, length, Option, Some, None, refl, sym, ap}
use Rattle.std.proofs.Common.{◌∙◌, subst, inl, inr, arith, append-nil, bit_and, bit_or, set, get_or, Bor, IfSome}
use Rattle.std.proofs.Common.{is_some, ltb}
use Rattle.std.proofs.lemmas.Bool.{ltb-false, cases_eq}
use Rattle.std.proofs.lemmas.Option.{get_or_from_slice_get}
use Rattle.std.proofs.lemmas.List.{get_or-set_same, get_or-set_other, length-set}
use Rattle.std.proofs.lemmas.List.Elements.{Contains-push_cases}
use Rattle.loading.specs.Families.{Family, IsAncestor, parents_in}
use Rattle.hierarchy.specs.Search.{Search}
use Rattle.hierarchy.specs.steps.Above.{IsAmongOrAbove}
use Rattle.hierarchy.specs.steps.DeclarationBits.{AreKnown, Has, IsHidden, IsOwn, Knows, known_of}
use Rattle.hierarchy.specs.declared.bits.Known.{Known}
use Rattle.hierarchy.specs.declared.bits.Own.{Own}
use Rattle.hierarchy.specs.declared.member.DeclaredMember.{DeclaredMember}
use Rattle.hierarchy.proofs.AboveLemmas.{ancestor_parts, among_parents}
use Rattle.hierarchy.proofs.AlongSuperclassesLemmas.{not_in_front}
use Rattle.hierarchy.proofs.AmongLemmas.{among_one, itself_among, above_one, among_push, among_left, among_right}
use Rattle.hierarchy.proofs.AmongLemmas.{found_in_front, read_at}
use Rattle.hierarchy.proofs.WordLemmas.{either, either_left, either_right, both, no_bit}
use Rattle.hierarchy.proofs.AscentsOrderLemmas.{none_in_empty}

abbrev no_bits : Known
no_bits = record { first = 0; covered = 0; present = 0; hidden = 0 }

module _ (family : Family) (declares : ℕ → Option ℕ) (d k n : ℕ) where
  none_among : (i : ℕ) → ¬ IsAmongOrAbove family [] i
  none_among i (inl here) = none_in_empty i here
  none_among i (inr up) = none_in_empty up.0 up.1

  pub knows_nothing : Knows family declares [] d k n (record { first = 0; covered = 0; present = 0; hidden = 0 })
  knows_nothing = record {
    first = λ has. absurd (no_bit n has);
    lacking = λ not. Search.nothing;
    present = (λ has. absurd (no_bit n has), λ among. absurd (none_among d among));
    hidden = (λ has. absurd (no_bit n has), λ over. absurd (none_among over.0 over.2));
  }

  -- ---- one more class behind others

  module _ (xs : List ℕ) (y : ℕ) (a b : Known) (front : ℕ)
      (apart : Has front n ↔ (Has b.first n × (¬ Has a.covered n)))
      (first : Knows family declares xs d k n a) (other : Knows family declares (y ∷ []) d k n b) where
    hidden_left : IsHidden family declares xs d → IsHidden family declares (xs ++ y ∷ []) d
    hidden_left (j, has, among, up) = (j, has, among_left xs y j among, up)

    hidden_right : IsHidden family declares (y ∷ []) d → IsHidden family declares (xs ++ y ∷ []) d
    hidden_right (j, has, among, up) = (j, has, among_right xs y j among, up)

    pub knows_before : Knows family declares (xs ++ y ∷ []) d k n (record {
      first = bit_or a.first front;
      covered = bit_or a.covered b.covered;
      present = bit_or a.present b.present;
      hidden = bit_or a.hidden b.hidden;
    })
    knows_before = record {
      first = λ has. elim (either a.first front n has) [
        | inl set ↦ found_in_front family declares (y ∷ []) (first.first set)
        | inr set ↦ not_in_front (first.lacking (apart.0 set).1) (other.first (apart.0 set).0)
      ];
      lacking = λ not. not_in_front
          (first.lacking (λ set. not (either_left a.covered b.covered n set)))
          (other.lacking (λ set. not (either_right a.covered b.covered n set)));
      present = (
        λ has. elim (either a.present b.present n has) [
          | inl set ↦ among_left xs y d (first.present.0 set)
          | inr set ↦ among_right xs y d (other.present.0 set)
        ],
        λ among. elim (among_push xs y d among) [
          | inl front ↦ either_left a.present b.present n (first.present.1 front)
          | inr back ↦ either_right a.present b.present n (other.present.1 back)
        ],
      );
      hidden = (
        λ has. elim (either a.hidden b.hidden n has) [
          | inl set ↦ hidden_left (first.hidden.0 set)
          | inr set ↦ hidden_right (other.hidden.0 set)
        ],
        λ over. elim (among_push xs y over.0 over.2) [
          | inl front ↦ either_left a.hidden b.hidden n (first.hidden.1 (over.0, over.1, front, over.3))
          | inr back ↦ either_right a.hidden b.hidden n (other.hidden.1 (over.0, over.1, back, over.3))
        ],
      );
    }

  -- ---- one class, after its parents

  module _ (c : ℕ) (own : Own) (up : Known) (rest : ℕ) (apart : Has rest n ↔ (Has up.first n × (¬ Has own.same n)))
      (there : declares d ≡ Some k) (mine : IsOwn declares c d n own)
      (above : Knows family declares (parents_in family c) d k n up) where
    lacks : ¬ Has own.same n → declares c ≡ None
    lacks not = by (declares c) refl
      where
        by : (o : Option ℕ) → declares c ≡ o → declares c ≡ None
        by None e = e
        by (Some l) e = absurd (not (mine.same.1 (l, e)))

    onward : {r : Option DeclaredMember} → declares c ≡ None → Search family declares (parents_in family c) r
        → Search family declares (c ∷ []) r
    onward {r = r} none search = Search.above none
        (subst (λ (l : List ℕ). Search family declares l r) (sym (append-nil (parents_in family c))) search)

    itself : c ≡ d → Search family declares (c ∷ []) (Some (record { class = d; index = k }))
    itself same = subst (λ (x : ℕ). Search family declares (x ∷ []) (Some (record { class = d; index = k })))
        (sym same) (Search.here there)

    present_up : IsAncestor family c d → Has up.present n
    present_up over = above.present.1 (ancestor_parts over)

    pub knows_below : Knows family declares (c ∷ []) d k n (record {
      first = bit_or own.here rest;
      covered = bit_or up.covered own.same;
      present = bit_or up.present own.here;
      hidden = bit_or up.hidden (bit_and up.present own.same);
    })
    knows_below = record {
      first = λ has. elim (either own.here rest n has) [
        | inl set ↦ itself (mine.here.0 set)
        | inr set ↦ onward (lacks (apart.0 set).1) (above.first (apart.0 set).0)
      ];
      lacking = λ not. onward (lacks (λ set. not (either_right up.covered own.same n set)))
          (above.lacking (λ set. not (either_left up.covered own.same n set)));
      present = (
        λ has. elim (either up.present own.here n has) [
          | inl set ↦ above_one c d (among_parents (above.present.0 set))
          | inr set ↦ subst (IsAmongOrAbove family (c ∷ [])) (mine.here.0 set) (itself_among c)
        ],
        λ among. elim (among_one c d among) [
          | inl same ↦ either_right up.present own.here n (mine.here.1 (sym same))
          | inr over ↦ either_left up.present own.here n (present_up over)
        ],
      );
      hidden = (
        λ has. elim (either up.hidden (bit_and up.present own.same) n has) [
          | inl set ↦
              let over = above.hidden.0 set in
              (over.0, over.1, above_one c over.0 (among_parents over.2), over.3)
          | inr set ↦
              let parts = (both up.present own.same n).0 set in
              (c, mine.same.0 parts.1, itself_among c, among_parents (above.present.0 parts.0))
        ],
        λ over. elim (among_one c over.0 over.2) [
          | inl same ↦
              let here : Has own.same n =
              mine.same.1 (over.1.0, ap declares (sym same) ∙ over.1.1) in
              let high : IsAncestor family c d = subst (λ (x : ℕ). IsAncestor family x d) same over.3 in
              either_right up.hidden (bit_and up.present own.same) n
              ((both up.present own.same n).1 (present_up high, here))
          | inr high ↦
              either_left up.hidden (bit_and up.present own.same) n
              (above.hidden.1 (over.0, over.1, ancestor_parts high, over.3))
        ],
      );
    }

  -- ---- by class

  pub known_next : (rows : List Known) (class : ℕ) (row : Known) (done : List ℕ) → class < length rows
      → Knows family declares (class ∷ []) d k n row → AreKnown family declares d k n done rows
      → AreKnown family declares d k n (done ++ class ∷ []) (set rows class row)
  known_next rows class row done within this are c among = elim (cases_eq c class) [
    | inl same ↦ (
      omega (arith, within, same, length-set rows class row),
      subst (λ (x : ℕ). Knows family declares (x ∷ []) d k n (known_of (set rows class row) x)) (sym same)
          (subst (Knows family declares (class ∷ []) d k n)
          (sym (get_or-set_same rows class row no_bits within)) this),
    )
    | inr other ↦
        let old = are c (elim (Contains-push_cases done class c among) [
          | inl before ↦ before
          | inr last ↦ absurd (other (sym last))
        ]) in (
          omega (arith, old.0, length-set rows class row),
          subst (Knows family declares (c ∷ []) d k n)
              (sym (get_or-set_other rows class c row no_bits other))
              old.1,
        )
  ]

-- as each is proved of one class after another, so of all classes of a list
pub known_all : (family : Family) (declares : ℕ → Option ℕ) (d k n : ℕ) (rows : List Known)
    → AreKnown family declares d k n [] rows
known_all family declares d k n rows c among = absurd (none_in_empty c among)

-- ---- a row that is read

-- one that is read stands there
pub row_there : (rows : List Known) (p : ℕ) (found : Option (Bor Known)) (row : Bor Known)
    → IfSome found (λ x. x.now ≡ get_or rows p x.now) → is_some found ≡ ltb p (length rows) → found ≡ Some row
    → known_of rows p ≡ row.now
row_there rows p found row at within is = get_or_from_slice_get rows p row.now
    (record { first = 0; covered = 0; present = 0; hidden = 0 }) (read_at rows p found row at within is)

-- one that is missed stands past the end
pub row_lost : (rows : List Known) (p : ℕ) (found : Option (Bor Known)) → is_some found ≡ ltb p (length rows)
    → ((row : Bor Known) → found ≢ Some row) → ¬ (p < length rows)
row_lost rows p found within none small = by found refl
  where
    by : (o : Option (Bor Known)) → found ≡ o → ⊥
    by (Some row) is = none row is
    by None is = omega (arith, small, ltb-false p (length rows) (sym within ∙ ap is_some is))
