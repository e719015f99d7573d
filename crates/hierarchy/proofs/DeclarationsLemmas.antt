-- Declarations as they are listed.
use Rattle.std.proofs.Common.{◌≡◌, ℕ, List, [], ◌∷◌, ◌++◌, sym, subst, inl, inr}
use Rattle.std.proofs.lemmas.List.Elements.{Contains-append_left, Contains-push_cases}
use Rattle.hierarchy.specs.Hierarchies.{NumberedFamily}
use Rattle.hierarchy.specs.steps.Declarations.{AreDeclared, AreWhole, Grows, IsDeclared, IsListed, IsWhole}
use Rattle.hierarchy.specs.declared.declarations.Declaration.{Declaration}
use Rattle.hierarchy.specs.declared.member_key.MemberKey.{MemberKey}
use Rattle.hierarchy.specs.declared.wanted.Wanted.{Wanted}

module _ (h : NumberedFamily) (wanted : Wanted) (key : MemberKey) where
  -- nothing was added
  pub goes_on : (xs ys zs : List Declaration) → Grows h wanted key xs ys → Grows h wanted key ys zs
      → Grows h wanted key xs zs
  goes_on xs ys zs a b = record {
    are = b.are;
    keeps = λ e has. b.keeps e (a.keeps e has);
    only = λ e has. elim (b.only e has) [
      | inl before ↦ a.only e before
      | inr this ↦ inr this
    ];
  }

  -- one more
  pub goes_one : (xs : List Declaration) (e : Declaration) → e.key ≡ key → AreDeclared h wanted xs
      → IsDeclared h wanted e → Grows h wanted key xs (xs ++ e ∷ [])
  goes_one xs e same are is = record {
    are = λ x has. elim (Contains-push_cases xs e x has) [
      | inl before ↦ are x before
      | inr last ↦ subst (IsDeclared h wanted) last is
    ];
    keeps = λ x has. Contains-append_left xs (e ∷ []) x has;
    only = λ x has. elim (Contains-push_cases xs e x has) [
      | inl before ↦ inl before
      | inr last ↦ inr (subst (λ (y : Declaration). y.key ≡ key) last same)
    ];
  }

  pub listed_still : (xs ys : List Declaration) (class : ℕ) → Grows h wanted key xs ys → (other : MemberKey)
      → IsListed xs other class → IsListed ys other class
  listed_still xs ys class goes other (e, has, same, at) = (e, goes.keeps e has, same, at)

  -- all stand there still, and all of the name and descriptor
  module _ (xs ys : List Declaration) (goes : Grows h wanted key xs ys) where
    pub whole_still : (other : MemberKey) → IsWhole h wanted xs other → IsWhole h wanted ys other
    whole_still other whole name class k numbers has =
        listed_still xs ys class goes other (whole name class k numbers has)

    pub wholes_on : AreWhole h wanted xs → IsWhole h wanted ys key → AreWhole h wanted ys
    wholes_on wholes this e has = elim (goes.only e has) [
      | inl before ↦ whole_still e.key (wholes e before)
      | inr same ↦ subst (IsWhole h wanted ys) (sym same) this
    ]
