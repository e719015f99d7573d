-- Places of files in the order of their names.
use Rattle.std.proofs.Common.{◌≡◌, ℕ, ◌+◌, ◌<◌, ◌≤◌, ◌⊎◌, inl, inr, true, false, List, [], ◌∷◌, length, get_or, Some}
use Rattle.std.proofs.Common.{refl, sym, ap, ◌∙◌, subst, arith}
use Rattle.std.specs.List.{Contains, HoldsAt, slice_get}
use Rattle.std.specs.List.Sorted.{IsSortedBy, IsNonDecreasingBy, IsPartitionPoint}
use Rattle.std.specs.Option.{option_map}
use Rattle.std.specs.Ordering.{is_lt, nat_cmp, ordering_index}
use Rattle.std.specs.Cmp.Lexicographic.{slice_cmp}
use Rattle.std.specs.declared.cmp.Ordering.TheVariants.{Less, Equal, Greater}
use Rattle.std.proofs.lemmas.Cmp.{nat_list_cmp_total}
use Rattle.std.proofs.lemmas.Map.Lookups.{exact_bytes}
use Rattle.std.proofs.lemmas.List.Sorted.{ranks_by, sorted_far, searchable_from_sorted}
use Rattle.std.proofs.lemmas.Option.{slice_get_within, slice_get-get_or, get_or_from_slice_get, same_Some}
use Rattle.classfile.specs.ClassFile.{ClassFile}
use Rattle.loading.specs.Names.{name_of, Precedes}
use Rattle.loading.specs.Files.{HasFile}
use Rattle.loading.specs.steps.Linking.{AreSorted, Ascend}
use Rattle.loading.proofs.NamesLemmas.{precedes_back, precedes_not_back, precedes_not_same, same_compares}

-- ---- members and places

pub place_of : {X : Type 0} (xs : List X) (x : X) → Contains xs x → (k : ℕ) × (slice_get xs k ≡ Some x)
place_of xs x (k, small, e) = (k, slice_get-get_or xs k x small ∙ ap Some e)

pub member_at : {X : Type 0} (xs : List X) (k : ℕ) (x : X) → slice_get xs k ≡ Some x → Contains xs x
member_at xs k x e = (k, slice_get_within xs k x e, get_or_from_slice_get xs k x x e)

pub one_of_three : (m n : ℕ) → (m < n) ⊎ ((m ≡ n) ⊎ (n < m))
one_of_three m n = grind arith

-- ---- files in order

pub sorted_files : (files : List ClassFile)
    → IsSortedBy (λ a b. is_lt (slice_cmp nat_cmp (name_of a) (name_of b))) files → AreSorted files
sorted_files files s = record {
  order = λ i j f g h at-f at-g less. (
      let far = sorted_far (λ a b. is_lt (slice_cmp nat_cmp (name_of a) (name_of b)))
      (ranks_by nat_list_cmp_total name_of) files s i j f (omega arith) (slice_get_within files j g at-g) in
      let first : get_or files i f ≡ f = get_or_from_slice_get files i f f at-f in
      let second : get_or files j f ≡ g = get_or_from_slice_get files j g f at-g in
      let none : is_lt (slice_cmp nat_cmp (name_of g) (name_of f)) ≡ false = rw (first, second) at far in
      let yes : is_lt (slice_cmp nat_cmp (name_of g) (name_of f)) ≡ true = ap is_lt less in
      cc);
}

-- a name stands at one place
pub one_place : (files : List ClassFile) → Ascend files → (i j : ℕ) (f g : ClassFile) → slice_get files i ≡ Some f
    → slice_get files j ≡ Some g
    → name_of f ≡ name_of g → i ≡ j
one_place files up i j f g at-f at-g e = elim (one_of_three i j) [
  | inl less ↦ absurd (precedes_not_same (name_of f) (name_of g) (up.order i j f g less at-f at-g) e)
  | inr rest ↦ elim rest [
    | inl same ↦ same
    | inr more ↦ absurd (precedes_not_same (name_of g) (name_of f) (up.order j i g f more at-g at-f) (sym e))
  ]
]

pub one_file : (files : List ClassFile) → Ascend files → (f g : ClassFile) (name : List ℕ) → HasFile files name f
    → HasFile files name g → f ≡ g
one_file files up f g name (in-f, is-f) (in-g, is-g) =
    let p = place_of files f in-f in
    let q = place_of files g in-g in
    let same : p.0 ≡ q.0 = one_place files up p.0 q.0 f g p.1 q.1 (is-f ∙ sym is-g) in
    same_Some f g (sym p.1 ∙ ap (λ (k : ℕ). slice_get files k) same ∙ q.1)

pub given_at : (files : List ClassFile) (k : ℕ) (f : ClassFile) → slice_get files k ≡ Some f
    → HasFile files (name_of f) f
given_at files k f e = (member_at files k f e, refl)

-- ---- the file of a name

ascending_keys : {X : Type 0} (key : X → List ℕ) (xs : List X)
    → ((i j : ℕ) (x y : X) → i < j → slice_get xs i ≡ Some x → slice_get xs j ≡ Some y → Precedes (key x) (key y))
    → IsSortedBy (λ a b. is_lt (slice_cmp nat_cmp (key a) (key b))) xs
ascending_keys key xs up k d low high =
    let x = get_or xs k d in
    let y = get_or xs (k + 1) d in
    let less = up k (k + 1) (get_or xs k d) (get_or xs (k + 1) d) (omega arith) (slice_get-get_or xs k d (omega arith))
    (slice_get-get_or xs (k + 1) d high) in
    ap is_lt (precedes_back (key (get_or xs k d)) (key (get_or xs (k + 1) d)) less)

-- where a binary search finds nothing, nothing has the name
pub not_found : {X : Type 0} (key : X → List ℕ) (xs : List X) (name : List ℕ) (n : ℕ)
    → ((i j : ℕ) (x y : X) → i < j → slice_get xs i ≡ Some x → slice_get xs j ≡ Some y → Precedes (key x) (key y))
    → (IsNonDecreasingBy (λ y. ordering_index (slice_cmp nat_cmp (key y) name)) xs
    → IsPartitionPoint (λ y. slice_cmp nat_cmp (key y) name ≡ Less) (λ y. slice_cmp nat_cmp (key y) name ≡ Greater) xs
    n)
    → (k : ℕ) (x : X) → slice_get xs k ≡ Some x → key x ≡ name → ⊥
not_found key xs name n up split k x at-x is =
    let point = split (searchable_from_sorted nat_list_cmp_total key xs name (ascending_keys key xs up)) in
    let within = slice_get_within xs k x at-x in
    let read : get_or xs k x ≡ x = get_or_from_slice_get xs k x x at-x in
    let same : slice_cmp nat_cmp (key x) name ≡ Equal = same_compares (key x) name is in
    elim (below_or k n) [
      | inl low ↦ (let less : slice_cmp nat_cmp (key x) name ≡ Less = rw read at (point.0 k x (omega arith) low) in cc)
      | inr high ↦ (let more : slice_cmp nat_cmp (key x) name ≡ Greater = rw read at (point.1 k x high within) in cc)
    ]
  where
    below_or : (m n : ℕ) → (m < n) ⊎ (n ≤ m)
    below_or m n = grind arith

-- what it finds has the name
pub found_at_place : {X : Type 0} (key : X → List ℕ) (xs : List X) (name : List ℕ) (k : ℕ) → k < length xs
    → HoldsAt (λ y. slice_cmp nat_cmp (key y) name ≡ Equal) xs k
    → option_map key (slice_get xs k) ≡ Some name
found_at_place key [] name k within at = absurd (omega arith)
found_at_place key (x ∷ xs) name k within at =
    let y = get_or (x ∷ xs) k x in
    let same : key (get_or (x ∷ xs) k x) ≡ name = exact_bytes (key (get_or (x ∷ xs) k x)) name (at x) in
    ap (option_map key) (slice_get-get_or (x ∷ xs) k x within) ∙ ap Some same

-- ---- the first file of a kind

-- none of the files before a number is such
abbrev pub NoneBefore : (ClassFile → Type 0) → List ClassFile → ℕ → Type 0
NoneBefore P files n = (j : ℕ) (g : ClassFile) → j < n → slice_get files j ≡ Some g → P g → ⊥

pub none_more : (P : ClassFile → Type 0) (files : List ClassFile) (n : ℕ) (f : ClassFile) → slice_get files n ≡ Some f
    → NoneBefore P files n → (P f → ⊥)
    → NoneBefore P files (n + 1)
none_more P files n f at-f none not j g below at-g holds = elim (one_of_three j n) [
  | inl less ↦ none j g less at-g holds
  | inr rest ↦ elim rest [
    | inl same ↦ not (subst P (same_Some g f (sym at-g ∙ ap (λ (k : ℕ). slice_get files k) same ∙ at-f)) holds)
    | inr more ↦ absurd (omega arith)
  ]
]

-- the first one has the least name
pub not_below : (P : ClassFile → Type 0) (files : List ClassFile) (n : ℕ) (f : ClassFile) → Ascend files
    → slice_get files n ≡ Some f → NoneBefore P files n
    → (g : ClassFile) → Contains files g → P g → Precedes (name_of g) (name_of f) → ⊥
not_below P files n f up at-f none g in-g holds less =
    let q = place_of files g in-g in
    elim (one_of_three q.0 n) [
      | inl before ↦ none q.0 g before q.1 holds
      | inr rest ↦ elim rest [
        | inl same ↦ precedes_not_same (name_of g) (name_of f) less
            (ap name_of (same_Some g f (sym q.1 ∙ ap (λ (k : ℕ). slice_get files k) same ∙ at-f)))
        | inr after ↦ precedes_not_back (name_of g) (name_of f) less (up.order n q.0 f g after at-f q.1)
      ]
    ]

-- where none is left, there is none
pub none_at_all : (P : ClassFile → Type 0) (files : List ClassFile) (n : ℕ) → length files ≤ n → NoneBefore P files n
    → (g : ClassFile) → Contains files g → P g → ⊥
none_at_all P files n all none g in-g holds =
    let q = place_of files g in-g in
    let within = slice_get_within files q.0 g q.1 in
    none q.0 g (omega arith) q.1 holds
