-- Tables by component, read by vertex.
use Rattle.std.proofs.Common.{◌≡◌, ℕ, ◌+◌, ◌<◌, ◌≤◌, List, [], ◌∷◌, ◌++◌, length, map, take, get_or, slice_index}
use Rattle.std.proofs.Common.{slice_index_or, sym, ap, ◌∙◌}
use Rattle.std.specs.List.{All}
use Rattle.std.proofs.lemmas.List.{get_or_default, length-map, map_more, take_all}
use Rattle.std.proofs.lemmas.List.Elements.{All-get_or}

-- what a table has for each of some numbers
abbrev pub read_at : {A : Type 0} → List A → A → List ℕ → List A
read_at table d numbers = map (λ n. slice_index_or table n d) numbers

module _ {A : Type 0} (table : List A) (numbers : List ℕ) (within : All (λ n. n < length table) numbers) where
  pub read_more : (row new : List A) (i number : ℕ) (x : A) → i < length numbers → number ≡ slice_index numbers i
      → x ≡ get_or table number x → ((d : A) → row ≡ read_at table d (take i numbers)) → new ≡ row ++ x ∷ []
      → (d : A) → new ≡ read_at table d (take (i + 1) numbers)
  read_more row new i number x small is at before pushed d =
      pushed ∙ ap (λ (l : List A). l ++ x ∷ []) (before d)
      ∙ ap (λ (y : A). read_at table d (take i numbers) ++ y ∷ []) here
      ∙ sym (map_more (λ (n : ℕ). slice_index_or table n d) numbers i 0 small)
    where
      low : slice_index numbers i < length table
      low = All-get_or (λ n. n < length table) numbers i 0 small within

      here : x ≡ slice_index_or table (slice_index numbers i) d
      here = at ∙ ap (λ (n : ℕ). get_or table n x) is ∙ get_or_default table (slice_index numbers i) x d low

pub read_all : {A : Type 0} (table row : List A) (numbers : List ℕ) (i : ℕ) → length numbers ≤ i
    → ((d : A) → row ≡ read_at table d (take i numbers)) → (d : A) → row ≡ read_at table d numbers
read_all table row numbers i whole before d = before d ∙ ap (read_at table d) (take_all i numbers whole)

pub read_length : {A : Type 0} (table row : List A) (numbers : List ℕ) (d : A)
    → ((e : A) → row ≡ read_at table e numbers) → length row ≡ length numbers
read_length table row numbers d is =
    ap length (is d) ∙ length-map numbers (λ (n : ℕ). slice_index_or table n d)
