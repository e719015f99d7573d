-- Two files of one name, among files in the order of their names.
use Rattle.std.proofs.Common.{◌≡◌, ℕ, ◌+◌, ◌<◌, ◌≤◌, inl, inr, List, length, get_or, Some, refl, sym, ap, ◌∙◌, subst}
use Rattle.std.proofs.Common.{arith}
use Rattle.std.specs.List.{slice_get}
use Rattle.std.proofs.lemmas.Option.{slice_get_within, slice_get-get_or, same_Some}
use Rattle.classfile.specs.ClassFile.{ClassFile}
use Rattle.loading.specs.Names.{name_of, Precedes}
use Rattle.loading.specs.Files.{IsTwice, IsLeast}
use Rattle.loading.specs.steps.Linking.{AreSorted, Ascend}
use Rattle.loading.proofs.NamesLemmas.{precedes_not_same, same_or_one_precedes, same_names}
use Rattle.loading.proofs.LinkingPlaceLemmas.{one_of_three}

-- no file before a number has the name of the one after it
abbrev pub Apart : List ClassFile → ℕ → Type 0
Apart files n = (k : ℕ) (f g : ClassFile) → k + 1 < n → slice_get files k ≡ Some f → slice_get files (k + 1) ≡ Some g
    → name_of f ≡ name_of g → ⊥

pub apart_more : (files : List ClassFile) (k n : ℕ) (f g : ClassFile) → n ≡ k + 1 → slice_get files k ≡ Some f
    → slice_get files n ≡ Some g → Apart files n
    → (name_of f ≡ name_of g → ⊥) → Apart files (n + 1)
apart_more files k n f g next at-f at-g apart differ l f' g' below at-f' at-g' e = elim (one_of_three (l + 1) n) [
  | inl less ↦ apart l f' g' less at-f' at-g' e
  | inr rest ↦ elim rest [
    | inl same ↦
        let here : l ≡ k = omega arith in
        let first : f' ≡ f = same_Some f' f (sym at-f' ∙ ap (λ (m : ℕ). slice_get files m) here ∙ at-f) in
        let second : g' ≡ g = same_Some g' g (sym at-g' ∙ ap (λ (m : ℕ). slice_get files m) same ∙ at-g) in
        differ (sym (ap name_of first) ∙ e ∙ ap name_of second)
    | inr more ↦ absurd (omega arith)
  ]
]

-- a name between two equal ones is the same
same_name_between : (files : List ClassFile) → AreSorted files → (i j : ℕ) (f g m : ClassFile) → i < j
    → slice_get files i ≡ Some f → slice_get files j ≡ Some g
    → name_of f ≡ name_of g → slice_get files (i + 1) ≡ Some m → name_of f ≡ name_of m
same_name_between files s i j f g m less at-f at-g e at-m = elim (one_of_three (i + 1) j) [
  | inl inside ↦ same_names (name_of f) (name_of m)
      (λ h. s.order (i + 1) j m g inside at-m at-g (subst (λ (z : List ℕ). Precedes z (name_of m)) e h))
      (s.order i (i + 1) f m (omega arith) at-f at-m)
  | inr rest ↦ elim rest [
    | inl same ↦ e ∙ ap name_of (same_Some g m (sym at-g ∙ ap (λ (k : ℕ). slice_get files k) (sym same) ∙ at-m))
    | inr more ↦ absurd (omega arith)
  ]
]

-- the next one
next_of : (files : List ClassFile) (i j : ℕ) (f g : ClassFile) → i < j → slice_get files i ≡ Some f
    → slice_get files j ≡ Some g
    → (m : ClassFile) × (slice_get files (i + 1) ≡ Some m)
next_of files i j f g less at-f at-g =
    let within = slice_get_within files j g at-g in
    (get_or files (i + 1) f, slice_get-get_or files (i + 1) f (omega arith))

-- where two stand next to each other first, theirs is the least such name
pub least_twice : (files : List ClassFile) → AreSorted files → (k n : ℕ) (f g : ClassFile) → n ≡ k + 1
    → slice_get files k ≡ Some f → slice_get files n ≡ Some g
    → name_of f ≡ name_of g → Apart files n → IsLeast (IsTwice files) (name_of g)
least_twice files s k n f g next at-f at-g e apart = ((k, n, f, g, omega arith, at-f, at-g, e, refl), least)
  where
    before : (i j : ℕ) (f' g' : ClassFile) → i < j → slice_get files i ≡ Some f' → slice_get files j ≡ Some g'
        → name_of f' ≡ name_of g'
        → Precedes (name_of f') (name_of g) → ⊥
    before i j f' g' less at-f' at-g' same low = elim (one_of_three i k) [
      | inl early ↦ (let m = next_of files i j f' g' less at-f' at-g' in
          apart i f' m.0 (omega arith) at-f' m.1 (same_name_between files s i j f' g' m.0 less at-f' at-g' same m.1))
      | inr rest ↦ elim rest [
        | inl here ↦ precedes_not_same (name_of f') (name_of g) low
            (ap name_of (same_Some f' f (sym at-f' ∙ ap (λ (m : ℕ). slice_get files m) here ∙ at-f)) ∙ e)
        | inr late ↦ s.order k i f f' late at-f at-f' (subst (λ (z : List ℕ). Precedes (name_of f') z) (sym e) low)
      ]
    ]

    least : (other : List ℕ) → IsTwice files other → Precedes other (name_of g) → ⊥
    least other (i, j, f', g', less, at-f', at-g', is-f', is-g') low =
        before i j f' g' less at-f' at-g' (is-f' ∙ sym is-g')
        (subst (λ (z : List ℕ). Precedes z (name_of g)) (sym is-f') low)

-- where none do, the names go up
pub ascending_files : (files : List ClassFile) (n : ℕ) → AreSorted files → length files ≤ n → Apart files n
    → Ascend files
ascending_files files n s all apart = record {
  order = λ i j f g less at-f at-g. elim (same_or_one_precedes (name_of f) (name_of g)) [
    | inl low ↦ low
    | inr rest ↦ elim rest [
      | inl same ↦ (let m = next_of files i j f g less at-f at-g in
          let within = slice_get_within files (i + 1) m.0 m.1 in
          absurd (apart i f m.0 (omega arith) at-f m.1 (same_name_between files s i j f g m.0 less at-f at-g same m.1)))
      | inr high ↦ absurd (s.order i j f g less at-f at-g high)
    ]
  ];
}

pub none_twice : (files : List ClassFile) → Ascend files → (name : List ℕ) → IsTwice files name → ⊥
none_twice files up name (i, j, f, g, less, at-f, at-g, is-f, is-g) =
    precedes_not_same (name_of f) (name_of g) (up.order i j f g less at-f at-g) (is-f ∙ sym is-g)
