-- Tables of lists by class, filled in an order in which each class stands after its parents.
use Rattle.std.proofs.Common.{◌≡◌, ℕ, ◌+◌, ◌<◌, ◌≤◌, ◌^◌, List, [], length, take, get_or, set}
use Rattle.std.proofs.Common.{sym, ap, ◌∙◌, subst, inl, inr, arith}
use Rattle.std.specs.List.{All, Contains}
use Rattle.std.proofs.lemmas.Bool.{cases_eq}
use Rattle.std.proofs.lemmas.List.{take_more, take_all, length-set, get_or-set_same, get_or-set_other}
use Rattle.std.proofs.lemmas.List.Elements.{All-set, Contains-push_cases}
use Rattle.graph.specs.Rows.{IsClosed}
use Rattle.loading.specs.Families.{Family, IsParentsFirst}
use Rattle.hierarchy.specs.Search.{row_in}

pub closed_set : (rows : List (List ℕ)) (c : ℕ) (row : List ℕ) → IsClosed rows → All (λ v. v < length rows) row
    → IsClosed (set rows c row)
closed_set rows c row closed within =
    subst (λ (n : ℕ). All (λ (r : List ℕ). All (λ v. v < n) r) (set rows c row)) (sym (length-set rows c row))
    (All-set (λ (r : List ℕ). All (λ v. v < length rows) r) rows c row within closed)

-- one more class has its list
pub rows_next : (P : ℕ → List ℕ → Type 0) (order : List ℕ) (rows : List (List ℕ)) (row : List ℕ) (k : ℕ)
    → k < length order → get_or order k 0 < length rows
    → ((d : ℕ) → Contains (take k order) d → P d (row_in rows d)) → P (get_or order k 0) row
    → (d : ℕ) → Contains (take (k + 1) order) d → P d (row_in (set rows (get_or order k 0) row) d)
rows_next P order rows row k small below before here d h = elim (cases_eq d (get_or order k 0)) [
  | inl same ↦ (let is : row_in (set rows (get_or order k 0) row) d ≡ row =
      ap (row_in (set rows (get_or order k 0) row)) same ∙ get_or-set_same rows (get_or order k 0) row [] below in
      rw (is, same) here)
  | inr other ↦ (let is : row_in (set rows (get_or order k 0) row) d ≡ row_in rows d =
      get_or-set_other rows (get_or order k 0) d row [] other in
      rw is (before d (earlier other)))
]
  where
    earlier : (d ≡ get_or order k 0 → ⊥) → Contains (take k order) d
    earlier other =
        elim (Contains-push_cases (take k order) (get_or order k 0) d (rw (take_more order k 0 small) at h)) [
          | inl before ↦ before
          | inr same ↦ absurd (other (sym same))
        ]

-- at the end each class has
pub rows_whole : (P : ℕ → List ℕ → Type 0) (family : Family) (order : List ℕ) (rows : List (List ℕ)) (k : ℕ)
    → length order ≤ k → IsParentsFirst family order
    → ((d : ℕ) → Contains (take k order) d → P d (row_in rows d)) → (c : ℕ) → c < length family → P c (row_in rows c)
rows_whole P family order rows k whole first before c small =
    before c (rw (take_all k order whole) (first.whole c small))

-- ---- a table that is filled in this order: so many classes have their lists

abbrev pub Filled : (ℕ → List ℕ → Type 0) → Family → ℕ → List ℕ → ℕ → List (List ℕ) → Type 0
Filled P family limit order k rows = record {
  limit : limit ≡ length family;
  few : length family ≤ 2 ^ 32;
  len : length rows ≡ length family;
  closed : IsClosed rows;
  lists : (c : ℕ) → Contains (take k order) c → P c (row_in rows c);
}

pub filled_next : (P : ℕ → List ℕ → Type 0) (family : Family) (limit new : ℕ) (order : List ℕ) (k : ℕ)
    (rows : List (List ℕ)) (row : List ℕ)
    → IsParentsFirst family order → k < length order → new ≡ limit → Filled P family limit order k rows
    → All (λ c. c < length rows) row
    → P (get_or order k 0) row → Filled P family new order (k + 1) (set rows (get_or order k 0) row)
filled_next P family limit new order k rows row first small same was within here =
    let class : ℕ = get_or order k 0 in
    let below : class < length rows = omega (arith, first.within k 0 small, was.len) in
    record {
      limit = same ∙ was.limit;
      few = was.few;
      len = length-set rows class row ∙ was.len;
      closed = closed_set rows class row was.closed within;
      lists = rows_next P order rows row k small below was.lists here;
    }
