-- The order of names.
use Rattle.std.proofs.Common.{◌≡◌, ℕ, ◌⊎◌, inl, inr, List, refl, sym, ap, ◌∙◌}
use Rattle.std.specs.declared.cmp.Ordering.{Ordering}
use Rattle.std.specs.declared.cmp.Ordering.TheVariants.{Less, Equal, Greater}
use Rattle.std.specs.Cmp.Lexicographic.{slice_cmp}
use Rattle.std.specs.Ordering.{nat_cmp, ordering_reverse}
use Rattle.std.proofs.lemmas.Cmp.{nat_list_cmp_total, tied_itself}
use Rattle.std.proofs.lemmas.Map.Lookups.{exact_bytes}
use Rattle.loading.specs.Names.{Precedes}

-- the other way round
comparison_reversed : (a b : List ℕ) → slice_cmp nat_cmp a b ≡ ordering_reverse (slice_cmp nat_cmp b a)
comparison_reversed a b = nat_list_cmp_total.antisymm a b

pub precedes_back : (a b : List ℕ) → Precedes a b → slice_cmp nat_cmp b a ≡ Greater
precedes_back a b h = comparison_reversed b a ∙ ap ordering_reverse h

pub precedes_not_back : (a b : List ℕ) → Precedes a b → Precedes b a → ⊥
precedes_not_back a b h g = (let back : slice_cmp nat_cmp b a ≡ Greater = precedes_back a b h in cc)

pub same_compares : (a b : List ℕ) → a ≡ b → slice_cmp nat_cmp a b ≡ Equal
same_compares a b e = ap (λ (z : List ℕ). slice_cmp nat_cmp a z) (sym e) ∙ tied_itself nat_list_cmp_total a

pub precedes_not_same : (a b : List ℕ) → Precedes a b → a ≡ b → ⊥
precedes_not_same a b h e = (let same : slice_cmp nat_cmp a b ≡ Equal = same_compares a b e in cc)

pub precedes_along : (a b c : List ℕ) → Precedes a b → Precedes b c → Precedes a c
precedes_along a b c = nat_list_cmp_total.trans a b c

-- one precedes the other, or they are the same
pub same_or_one_precedes : (a b : List ℕ) → Precedes a b ⊎ ((a ≡ b) ⊎ Precedes b a)
same_or_one_precedes a b = by_order (slice_cmp nat_cmp a b) refl
  where
    by_order : (o : Ordering) → slice_cmp nat_cmp a b ≡ o → Precedes a b ⊎ ((a ≡ b) ⊎ Precedes b a)
    by_order Less e = inl e
    by_order Equal e = inr (inl (exact_bytes a b e))
    by_order Greater e = inr (inr (comparison_reversed b a ∙ ap ordering_reverse e))

pub same_names : (a b : List ℕ) → (Precedes a b → ⊥) → (Precedes b a → ⊥) → a ≡ b
same_names a b low high = elim (same_or_one_precedes a b) [
  | inl less ↦ absurd (low less)
  | inr rest ↦ elim rest [ inl same ↦ same | inr more ↦ absurd (high more) ]
]
