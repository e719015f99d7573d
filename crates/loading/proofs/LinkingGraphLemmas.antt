-- The graph of given parents.
use Rattle.std.proofs.Common.{◌≡◌, ℕ, ◌+◌, ◌<◌, ◌≤◌, ◌⊎◌, inl, inr, List, [], ◌++◌, length, get_or, slice_index}
use Rattle.std.proofs.Common.{Option, Some, refl, sym, ap, subst, ◌∙◌, arith}
use Rattle.std.specs.List.{All, Contains, slice_get}
use Rattle.std.specs.Option.{option_map}
use Rattle.std.proofs.lemmas.Option.{slice_get_within, slice_get_past, slice_get_read, get_or_from_slice_get}
use Rattle.std.proofs.lemmas.List.Elements.{Contains-get_or}
use Rattle.graph.specs.Rows.{Rows, successors_of}
use Rattle.graph.specs.Reaches.{Reaches, itself, along, IsLeastOnCycle, IsAcyclic}
use Rattle.graph.specs.Order.{IsTopological}
use Rattle.graph.proofs.OrderLemmas.{has_vertex}
use Rattle.graph.proofs.RowsLemmas.{has_successor}
use Rattle.classfile.specs.Units.{units_text}
use Rattle.loading.specs.declared.fault.LinkFault.TheVariants as faults
use Rattle.loading.specs.Names.{name_of}
use Rattle.loading.specs.declared.given.GivenClass.{GivenClass}
use Rattle.loading.specs.Families.{Family, file_of, parents_in, IsAncestor, parent, further, IsParentsFirst}
use Rattle.loading.specs.steps.Linking.{IsGraphOf, IsLeastClassOnCycle, IsCycleFault, numbers_of_class}
use Rattle.loading.proofs.LinkingClassLemmas.{parents_of_child}

-- ---- ancestors are what is reached

edge_of : (family : Family) (graph : Rows) → IsGraphOf family graph → (c d : ℕ) → Contains (parents_in family c) d
    → Contains (successors_of graph c) d
edge_of family graph g c d = subst (λ (z : List ℕ). Contains z d) (sym (g.rows c))

parent_of : (family : Family) (graph : Rows) → IsGraphOf family graph → (c d : ℕ) → Contains (successors_of graph c) d
    → Contains (parents_in family c) d
parent_of family graph g c d = subst (λ (z : List ℕ). Contains z d) (g.rows c)

ancestor_from_path : (family : Family) (graph : Rows) → IsGraphOf family graph → (v a b : ℕ)
    → Contains (successors_of graph v) a → Reaches graph a b → IsAncestor family v b
ancestor_from_path family graph g v a b edge itself = parent (parent_of family graph g v a edge)
ancestor_from_path family graph g v a b edge (along {a = m} path last) =
    further (ancestor_from_path family graph g v a m edge path) (parent_of family graph g m b last)

path_from_ancestor : (family : Family) (graph : Rows) → IsGraphOf family graph → (v b : ℕ) → IsAncestor family v b
    → (a : ℕ) × Contains (successors_of graph v) a × Reaches graph a b
path_from_ancestor family graph g v b (parent h) = (b, edge_of family graph g v b h, itself)
path_from_ancestor family graph g v b (further {d = m} up last) =
    let path = path_from_ancestor family graph g v m up in
    (path.0, path.1, along path.2 (edge_of family graph g m b last))

pub family_acyclic : (family : Family) (graph : Rows) → IsGraphOf family graph → IsAcyclic graph → (c : ℕ)
    → IsAncestor family c c → ⊥
family_acyclic family graph g none c up = none c (path_from_ancestor family graph g c c up)

pub least_cycle : (family : Family) (graph : Rows) (v : ℕ) → IsGraphOf family graph → IsLeastOnCycle graph v
    → IsLeastClassOnCycle family v
least_cycle family graph v g least = record {
  on_cycle = (let path = least.on_cycle in ancestor_from_path family graph g v path.0 v path.1 path.2);
  least = λ d below up. least.least d below (path_from_ancestor family graph g d d up);
}

pub cycle_vertex : (family : Family) (graph : Rows) (v : ℕ) → IsGraphOf family graph → IsLeastOnCycle graph v
    → v < length family
cycle_vertex family graph v g least =
    (let on = least.on_cycle in let small = has_successor graph v on.0 on.1 in omega (arith, small, g.count))

pub fault_of_cycle : (family : Family) (v : ℕ) (x : GivenClass) (name : List ℕ) → v < length family
    → IsLeastClassOnCycle family v → x ≡ get_or family v x
    → units_text name ≡ name_of x.file → IsCycleFault family (faults.Circle name)
fault_of_cycle family v x name within least read is =
    let at-x : slice_get family v ≡ Some x = slice_get_read family (length family) v x refl within read in
    record {
      number = v;
      name = name;
      is = refl;
      names = ap (λ (o : Option GivenClass). option_map name_of (file_of o)) at-x ∙ ap Some (sym is);
      least = least;
    }

-- ---- orders

pub parents_first : (family : Family) (graph : Rows) (order : List ℕ) → IsGraphOf family graph
    → IsTopological graph order → IsParentsFirst family order
parents_first family graph order g t = record {
  within = subst (λ (n : ℕ). All (λ c. c < n) order) g.count t.each.within;
  whole = λ c small. has_vertex graph order c t.each (omega (arith, g.count));
  after = λ i c d at-c has. (
      let here : slice_index order i ≡ c = get_or_from_slice_get order i c 0 at-c in
      t.after i d (slice_get_within order i c at-c)
      (subst (λ (v : ℕ). Contains (successors_of graph v) d) (sym here) (edge_of family graph g c d has)));
}

-- ---- one more class

pub record HasRows (family : Family) (n : ℕ) (graph : Rows) : Type 0 where
  pub count : length graph ≡ length family
  pub rows : (c : ℕ) → c < n → successors_of graph c ≡ parents_in family c
  pub empty : (c : ℕ) → n ≤ c → successors_of graph c ≡ []

pub rows_more : (family : Family) (n : ℕ) (x : GivenClass) (old new : Rows) → slice_get family n ≡ Some x
    → HasRows family n old → length new ≡ length old
    → successors_of new n ≡ successors_of old n ++ numbers_of_class x
    → ((c : ℕ) → (c ≡ n → ⊥) → successors_of new c ≡ successors_of old c) → HasRows family (n + 1) new
rows_more family n x old new at-x h count own others = record {
  count = count ∙ h.count;
  rows = λ c below. elim (less_or c n) [
    | inl less ↦ others c (λ e. omega arith) ∙ h.rows c less
    | inr more ↦ (let here : c ≡ n = omega arith in
        subst (λ (m : ℕ). successors_of new m ≡ parents_in family m) (sym here)
        (own ∙ ap (λ (z : List ℕ). z ++ numbers_of_class x) (h.empty n (omega arith))
        ∙ sym (parents_of_child family n x at-x)))
  ];
  empty = λ c above. others c (λ e. omega arith) ∙ h.empty c (omega arith);
}
  where
    less_or : (m n : ℕ) → (m < n) ⊎ (n ≤ m)
    less_or m n = grind arith

pub all_rows : (family : Family) (n : ℕ) (graph : Rows) → length family ≤ n → HasRows family n graph
    → IsGraphOf family graph
all_rows family n graph all h = record { count = h.count; rows = rows }
  where
    rows : (c : ℕ) → successors_of graph c ≡ parents_in family c
    rows c = elim (less_or c n) [
      | inl less ↦ h.rows c less
      | inr more ↦ h.empty c more ∙ sym (none_past c (omega arith))
    ]
      where
        less_or : (m n : ℕ) → (m < n) ⊎ (n ≤ m)
        less_or m n = grind arith

        none_past : (c : ℕ) → length family ≤ c → parents_in family c ≡ []
        none_past c past = rw (slice_get_past family c past) refl

-- the numbers of a class's parents are vertices
pub numbers_within : (family : Family) (graph : Rows) (n : ℕ) (x : GivenClass)
    → ((c d : ℕ) → Contains (parents_in family c) d → d < length family)
    → slice_get family n ≡ Some x → length graph ≡ length family → All (λ d. d < length graph) (numbers_of_class x)
numbers_within family graph n x within at-x count k d small =
    let has : Contains (numbers_of_class x) (get_or (numbers_of_class x) k d) =
    Contains-get_or (numbers_of_class x) k d small in
    let below =
    within n (get_or (numbers_of_class x) k d) (subst (λ (z : List ℕ). Contains z (get_or (numbers_of_class x) k d))
    (sym (parents_of_child family n x at-x)) has) in
    omega (arith, below, count)
