-- The one default among superinterfaces, as methods are found one after another.
use Rattle.std.proofs.Common.{◌≡◌, ◌↔◌, ◌<◌, length, ℕ, Bool, true, false, cond, eqb, List, [], ◌∷◌, ◌++◌, Option, Some}
use Rattle.std.proofs.Common.{None, MatchOption, refl, sym, ap, ◌∙◌, subst, inl, inr, arith, is_some}
use Rattle.std.specs.List.{Contains}
use Rattle.std.proofs.lemmas.Bool.{eqb-true, eq-eqb}
use Rattle.std.proofs.lemmas.List.Elements.{Contains-append_left, Contains-push, Contains-push_cases, All-contains}
use Rattle.built_in.specs.Keys.{NameAndType}
use Rattle.loading.specs.Families.{Family, IsFamily, IsAncestor, parent, further, parents_in}
use Rattle.graph.specs.steps.Adds.{Adds}
use Rattle.hierarchy.specs.steps.Above.{IsAmongOrAbove}
use Rattle.hierarchy.specs.MemberLookup.{interface_method_in, IsDefault, IsTheDefault, HasNoDefault, flags_in}
use Rattle.hierarchy.specs.MemberLookup.{is_abstract}
use Rattle.hierarchy.specs.steps.Defaults.{AreFound, nothing, one, several, found_with, found_after, only_of, HasMethod}
use Rattle.hierarchy.specs.steps.Defaults.{IsFree, AreCovered, AreParentsOf, Among}
use Rattle.hierarchy.specs.declared.defaults.FoundMethods.{FoundMethods}
use Rattle.hierarchy.specs.declared.defaults.FoundMethods.TheVariants as found
use Rattle.hierarchy.proofs.AboveLemmas.{ancestor_through}
use Rattle.hierarchy.proofs.ClassSetLemmas.{by_parent}

-- ---- one more class

module _ (Is : ℕ → ℕ → Type 0) (seen : List ℕ) (x : ℕ) where
  still : (i : ℕ) → Contains seen i → Contains (seen ++ x ∷ []) i
  still i has = Contains-append_left seen (x ∷ []) i has

  none_there : ((k : ℕ) → ¬ Is x k) → (j l : ℕ) → Contains (seen ++ x ∷ []) j → Is j l → Contains seen j
  none_there none j l has is = elim (Contains-push_cases seen x j has) [
    | inl before ↦ before
    | inr last ↦ absurd (none l (subst (λ (n : ℕ). Is n l) (sym last) is))
  ]

  no_more : (before : FoundMethods) → ((k : ℕ) → ¬ Is x k) → AreFound Is seen before
      → AreFound Is (seen ++ x ∷ []) before
  no_more found.Nothing none (nothing free) = nothing (λ i k has is. free i k (none_there none i k has is) is)
  no_more (found.One i k) none (one among p only) =
      one (still i among) p (λ j l has is. only j l (none_there none j l has is) is)
  no_more found.Several none (several {i = i} {j = j} a p b q differ) = several (still i a) p (still j b) q differ

  with_one : (before : FoundMethods) (k : ℕ) → Is x k → AreFound Is seen before
      → AreFound Is (seen ++ x ∷ []) (found_with before x k)
  with_one found.Nothing k is (nothing free) =
      one (Contains-push seen x) is (λ j l has other. elim (Contains-push_cases seen x j has) [
        | inl before ↦ absurd (free j l before other)
        | inr last ↦ sym last
      ])
  with_one (found.One i l) k is (one among p only) = by (eqb i x) refl
    where
      by : (b : Bool) → eqb i x ≡ b → AreFound Is (seen ++ x ∷ []) (cond b (found.One i l) found.Several)
      by true e = one (still i among) p (λ j m has other. elim (Contains-push_cases seen x j has) [
        | inl before ↦ only j m before other
        | inr last ↦ sym last ∙ sym (eqb-true i x e)
      ])
      by false e = several (still i among) p (Contains-push seen x) is
          (λ (same : i ≡ x). (let clash : true ≡ false = sym (eq-eqb i x same) ∙ e in cc))
  with_one found.Several k is (several {i = i} {j = j} a p b q differ) = several (still i a) p (still j b) q differ

  pub one_more : (before : FoundMethods) (index : Option ℕ) → MatchOption index ((k : ℕ) → ¬ Is x k) (Is x)
      → AreFound Is seen before → AreFound Is (seen ++ x ∷ []) (found_after before x index)
  one_more before None none are = no_more before none are
  one_more before (Some k) is are = with_one before k is are

-- before the first one
pub none_yet : (Is : ℕ → ℕ → Type 0) → AreFound Is [] found.Nothing
none_yet Is = nothing (λ i k has. absurd (omega (arith, has.1)))

pub some_by : (o : Option ℕ) → is_some o ≡ true → (l : ℕ) × (o ≡ Some l)
some_by None e = absurd cc
some_by (Some l) e = (l, refl)

pub none_by : (o : Option ℕ) → is_some o ≡ false → o ≡ None
none_by None e = refl
none_by (Some l) e = absurd cc

-- ---- what stands above the candidates

module _ (family : Family) (Is : ℕ → ℕ → Type 0) (seen : List ℕ) where
  pub parents_with : (x l : ℕ) (old new : List ℕ) → Is x l → AreParentsOf family Is seen old
      → Adds old (parents_in family x) new → AreParentsOf family Is (seen ++ x ∷ []) new
  parents_with x l old new has are a m = (
    λ among. elim (a.only m among) [
      | inl before ↦ (let at = (are m).0 before in (at.0, Contains-append_left seen (x ∷ []) at.0 at.1, at.2, at.3))
      | inr edge ↦ (x, Contains-push seen x, (l, has), edge)
    ],
    λ at. elim (Contains-push_cases seen x at.0 at.1) [
      | inl before ↦ a.keeps m ((are m).1 (at.0, before, at.2, at.3))
      | inr last ↦
          All-contains (Contains new) (parents_in family x) m a.added
          (subst (λ (j : ℕ). Contains (parents_in family j) m) (sym last) at.3)
    ],
  )

  pub parents_without : (x : ℕ) (old : List ℕ) → ((l : ℕ) → ¬ Is x l) → AreParentsOf family Is seen old
      → AreParentsOf family Is (seen ++ x ∷ []) old
  parents_without x old none are m = (
    λ among. (let at = (are m).0 among in (at.0, Contains-append_left seen (x ∷ []) at.0 at.1, at.2, at.3)),
    λ at. elim (Contains-push_cases seen x at.0 at.1) [
      | inl before ↦ (are m).1 (at.0, before, at.2, at.3)
      | inr last ↦ absurd (none at.2.0 (subst (λ (j : ℕ). Is j at.2.0) (sym last) at.2.1))
    ],
  )

pub no_parents : (family : Family) (Is : ℕ → ℕ → Type 0) → AreParentsOf family Is [] []
no_parents family Is m = (λ among. absurd (omega (arith, among.1)), λ at. absurd (omega (arith, at.1.1)))

-- the parents of the candidates and all above them
pub covered_by : (family : Family) (key : NameAndType) (seen parents covered : List ℕ)
    → AreParentsOf family (HasMethod family key) seen parents
    → ((m : ℕ) → Contains covered m ↔ IsAmongOrAbove family parents m)
    → AreCovered family key seen covered
covered_by family key seen parents covered are all m = (
  λ among. elim ((all m).0 among) [
    | inl low ↦ (let at = (are m).0 low in (at.0, at.1, (at.2, parent at.3)))
    | inr high ↦
        let at = (are high.0).0 high.1 in (at.0, at.1, (at.2, ancestor_through (parent at.3) high.2))
  ],
  λ at. (all m).1 (elim (by_parent family at.0 m at.2.1) [
    | inl edge ↦ inl ((are m).1 (at.0, at.1, at.2.0, edge))
    | inr more ↦ inr (more.0, (are more.0).1 (at.0, at.1, at.2.0, more.1), more.2)
  ]),
)

-- ---- among some classes, when all that may have a method were asked

module _ (Is : ℕ → ℕ → Type 0) (among : List ℕ) where
  pub among_at : (x : ℕ) (index : Option ℕ) → Contains among x → MatchOption index ((k : ℕ) → ¬ Is x k) (Is x)
      → MatchOption index ((k : ℕ) → ¬ Among Is among x k) (Among Is among x)
  among_at x None has none = λ k both. none k both.1
  among_at x (Some k) has is = (has, is)

  module _ (asked : List ℕ) (whole : (i k : ℕ) → Is i k → Contains asked i) where
    pub found_among : (found : FoundMethods) → AreFound (Among Is among) asked found → AreFound Is among found
    found_among found.Nothing (nothing free) = nothing (λ i k has is. free i k (whole i k is) (has, is))
    found_among (found.One i k) (one a p only) = one p.0 p.1 (λ j l has is. only j l (whole j l is) (has, is))
    found_among found.Several (several a p b q differ) = several p.0 p.1 q.0 q.1 differ

    pub parents_among : (family : Family) (parents : List ℕ) → AreParentsOf family (Among Is among) asked parents
        → AreParentsOf family Is among parents
    parents_among family parents are m = (
      λ has. (let at = (are m).0 has in (at.0, at.2.1.0, (at.2.0, at.2.1.1), at.3)),
      λ at. (are m).1 (at.0, whole at.0 at.2.0 at.2.1, (at.2.0, (at.1, at.2.1)), at.3),
    )

-- ---- all superinterfaces

-- where no interface has the method
pub no_method : (family : Family) (key : NameAndType) (c : ℕ) → ((i : ℕ) → interface_method_in family key i ≡ None)
    → HasNoDefault family key c
no_method family key c none = λ i k the. let clash : None ≡ Some k = sym (none i) ∙ the.0.0.0.1 in cc

-- a class without parents has none
pub no_ancestor : (family : Family) (c j : ℕ) → (0 < length (parents_in family c) → ⊥) → ¬ IsAncestor family c j
no_ancestor family c j none (parent has) = none (omega (arith, has.1))
no_ancestor family c j none (further {d = d} up has) = no_ancestor family c d none up

pub no_default : (family : Family) (key : NameAndType) (c : ℕ) → (0 < length (parents_in family c) → ⊥)
    → HasNoDefault family key c
no_default family key c none = λ i k the. no_ancestor family c i none the.0.0.0.0

module _ (family : Family) (key : NameAndType) (c : ℕ) (seen : List ℕ)
    (ancestors : (m : ℕ) → Contains seen m ↔ IsAncestor family c m) where
  -- no candidate at all
  pub none_is_default : AreFound (HasMethod family key) seen found.Nothing → HasNoDefault family key c
  none_is_default (nothing free) = λ i k the. free i k ((ancestors i).1 the.0.0.0.0) the.0.0.0.1

  -- the only candidate
  pub only_is_default : (i k : ℕ) → IsFamily family → is_abstract (flags_in family i k) ≡ false
      → AreFound (HasMethod family key) seen (found.One i k) → IsTheDefault family key c i k
  only_is_default i k fits code (one among has only) = (
    (
      (
        ((ancestors i).0 among, has),
        λ j l other below. fits.acyclic i
            (subst (λ (x : ℕ). IsAncestor family x i) (only j l ((ancestors j).1 other.0) other.1) below),
      ),
      code,
    ),
    λ j l default.
        let same : j ≡ i = only j l ((ancestors j).1 default.0.0.0) default.0.0.1 in
        let places : Some l ≡ Some k = sym default.0.0.1 ∙ ap (interface_method_in family key) same ∙ has in
        (same, cc),
  )

  pub only_is_abstract : (i k : ℕ) → is_abstract (flags_in family i k) ≡ true
      → AreFound (HasMethod family key) seen (found.One i k) → HasNoDefault family key c
  only_is_abstract i k abstract (one among has only) = λ j l the.
      let same : j ≡ i = only j l ((ancestors j).1 the.0.0.0.0) the.0.0.0.1 in
      let places : Some l ≡ Some k = sym the.0.0.0.1 ∙ ap (interface_method_in family key) same ∙ has in
      let place : l ≡ k = cc in
      let clash : true ≡ false = sym abstract ∙ ap (λ (n : ℕ). is_abstract (flags_in family n k)) (sym same)
      ∙ ap (λ (n : ℕ). is_abstract (flags_in family j n)) (sym place) ∙ the.0.1 in
      cc

  module _ (covered : List ℕ) (are : AreCovered family key seen covered) where
    free_is_default : (i k : ℕ) → Contains seen i → IsFree family key covered i k → IsDefault family key c i k
    free_is_default i k among free = (
      (
        ((ancestors i).0 among, free.0),
        λ j l other below. free.2 ((are i).1 (j, (ancestors j).1 other.0, ((l, other.1), below))),
      ),
      free.1,
    )

    default_is_free : (i k : ℕ) → IsDefault family key c i k → IsFree family key covered i k
    default_is_free i k default = (
      default.0.0.1,
      default.1,
      λ among.
          let over = (are i).0 among in
          default.0.1 over.0 over.2.0.0 ((ancestors over.0).0 over.1, over.2.0.1) over.2.1,
    )

    pub when_all_seen : (all : FoundMethods) → AreFound (IsFree family key covered) seen all
        → MatchOption (only_of all) (HasNoDefault family key c) (λ x. IsTheDefault family key c x.class x.index)
    when_all_seen found.Nothing (nothing free) = λ i k the.
        free i k ((ancestors i).1 the.0.0.0.0) (default_is_free i k the.0)
    when_all_seen (found.One i k) (one among p only) = (
      free_is_default i k among p,
      λ j l default.
          let same : j ≡ i = only j l ((ancestors j).1 default.0.0.0) (default_is_free j l default) in
          let places : Some l ≡ Some k = sym default.0.0.1 ∙ ap (interface_method_in family key) same ∙ p.0 in
          (same, cc),
    )
    when_all_seen found.Several (several {i = i} {j = j} {k = k} {l = l} a p b q differ) = λ m n the.
        differ ((the.1 i k (free_is_default i k a p)).0 ∙ sym (the.1 j l (free_is_default j l b q)).0)
