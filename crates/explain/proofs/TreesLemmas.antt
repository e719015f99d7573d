-- Searches that keep from where each vertex was found.
use Rattle.std.proofs.Common.{◌≡◌, ◌∙◌, ℕ, ◌+◌, ◌<◌, ◌≤◌, true, false, List, [], ◌∷◌, ◌++◌, length, take, Some}
use Rattle.std.proofs.Common.{slice_get, slice_index, refl, sym, ap, subst, inl, inr, arith}
use Rattle.std.specs.List.{Contains}
use Rattle.std.proofs.lemmas.Grind.{common_steps}
use Rattle.std.proofs.lemmas.List.{length_push, get_or_push}
use Rattle.std.proofs.lemmas.List.Elements.{All-nil, All-cons, Contains-push}
use Rattle.std.proofs.lemmas.Option.{slice_get_within, slice_get-get_or}
use Rattle.loading.proofs.PlaceLemmas.{pushed_at, kept_at}
use Rattle.graph.specs.Rows.{Rows, successors_of}
use Rattle.graph.specs.steps.Adds.{Adds}
use Rattle.graph.proofs.AddsLemmas.{adds_more}
use Rattle.explain.specs.steps.Trees.{IsTree, JoinsFrom}

-- ---- a vertex that joins

-- as the members of a row that are new
pub adds_none : (items : List ℕ) → Adds items [] items
adds_none items = record {
  grows = omega arith;
  same = λ k small. refl;
  keeps = λ x h. h;
  added = All-nil (Contains items);
  only = λ x h. inl h;
}

pub adds_first : (v : ℕ) → Adds [] (v ∷ []) (v ∷ [])
adds_first v = record {
  grows = omega arith;
  same = λ k small. absurd (omega (arith, small));
  keeps = λ x (k, small, e). absurd (omega (arith, small));
  added = All-cons (Contains (v ∷ [])) v [] (Contains-push [] v) (All-nil (Contains (v ∷ [])));
  only = λ x h. inr h;
}

pub adds_joined : (old row items new : List ℕ) (finders newer : List ℕ) (i v place : ℕ) → i < length row
    → v ≡ slice_index row i → Adds old (take i row) items → JoinsFrom v place items finders new newer
    → Adds old (take (i + 1) row) new
adds_joined old row items new finders newer i v place small is adds (inl (absent, e, f)) =
    adds_more true old row items new i v small is adds (absent, e)
adds_joined old row items new finders newer i v place small is adds (inr (was, e, f)) =
    adds_more false old row items new i v small is adds (was, e)

pub here_joined : (items new finders newer : List ℕ) (v place p u : ℕ)
    → JoinsFrom v place items finders new newer → slice_get items p ≡ Some u → slice_get new p ≡ Some u
here_joined items new finders newer v place p u (inl (absent, e, f)) at =
    subst (λ (l : List ℕ). slice_get l p ≡ Some u) (sym e) (kept_at items v u p at)
here_joined items new finders newer v place p u (inr (was, e, f)) at =
    subst (λ (l : List ℕ). slice_get l p ≡ Some u) (sym e) at

-- ---- trees

pub tree_none : (graph : Rows) → IsTree graph [] []
tree_none graph = record { len = refl; found = λ p v far at. absurd cc }

last_at : (finders : List ℕ) (place p : ℕ) → p ≡ length finders → slice_get (finders ++ place ∷ []) p ≡ Some place
last_at finders place p is =
    slice_get-get_or (finders ++ place ∷ []) p place (let l = length_push finders place in omega (arith, l, is))
    ∙ ap Some (get_or_push finders place place p (sym is))

pub tree_first : (graph : Rows) (v place : ℕ) → IsTree graph (v ∷ []) (place ∷ [])
tree_first graph v place = record {
  len = refl;
  found = λ p u far at. absurd (let low = slice_get_within (v ∷ []) p u at in omega (arith, far, low));
}

tree_pushed : (graph : Rows) (items finders : List ℕ) (v place u : ℕ) → IsTree graph items finders
    → slice_get items place ≡ Some u → Contains (successors_of graph u) v
    → IsTree graph (items ++ v ∷ []) (finders ++ place ∷ [])
tree_pushed graph items finders v place u tree at edge = record {
  len = (let a = length_push finders place in let b = length_push items v in omega (arith, a, b, tree.len));
  found = λ p w far there. elim (pushed_at items v w p there) [
    | inl before ↦ (let (f, x, low, finder, stands, leads) = tree.found p w far before in (
      f,
      x,
      low,
      kept_at finders place f p finder,
      kept_at items v x f stands,
      leads,
    ))
    | inr (last, same) ↦ (
      place,
      u,
      (let low = slice_get_within items place u at in omega (arith, last, low)),
      last_at finders place p (omega (arith, last, tree.len)),
      kept_at items v u place at,
      subst (λ (x : ℕ). Contains (successors_of graph u) x) same edge,
    )
  ];
}

pub tree_joined : (graph : Rows) (items finders new newer : List ℕ) (v place u : ℕ)
    → JoinsFrom v place items finders new newer → slice_get items place ≡ Some u
    → Contains (successors_of graph u) v → IsTree graph items finders → IsTree graph new newer
tree_joined graph items finders new newer v place u (inl (absent, e, f)) at edge tree =
    rw (e, f) (tree_pushed graph items finders v place u tree at edge)
tree_joined graph items finders new newer v place u (inr (was, e, f)) at edge tree = rw (e, f) tree

-- the first vertex
pub first_joined : (items finders new newer : List ℕ) (v place : ℕ) → items ≡ [] → finders ≡ []
    → JoinsFrom v place items finders new newer → (new ≡ v ∷ []) × (newer ≡ place ∷ [])
first_joined items finders new newer v place none unfound (inl (absent, e, f)) =
    (e ∙ ap (λ (l : List ℕ). l ++ v ∷ []) none, f ∙ ap (λ (l : List ℕ). l ++ place ∷ []) unfound)
first_joined items finders new newer v place none unfound (inr ((k, small, is), e, f)) =
    absurd (let empty : length items ≡ 0 = ap length none in omega (arith, small, empty))

-- what is first stays first
pub first_kept : (old row new : List ℕ) (v : ℕ) → Adds old row new → slice_get old 0 ≡ Some v
    → slice_get new 0 ≡ Some v
first_kept old row new v adds at = kept_first old new v
    (let low = slice_get_within old 0 v at in low) adds.grows (adds.same 0 (slice_get_within old 0 v at)) at
  where
    kept_first : (old new : List ℕ) (v : ℕ) → 0 < length old → length old ≤ length new
        → slice_index new 0 ≡ slice_index old 0 → slice_get old 0 ≡ Some v → slice_get new 0 ≡ Some v
    kept_first old new v some more same at = grind (arith, common_steps)

-- the vertex at a place
pub stands_at : (items : List ℕ) (place : ℕ) → place < length items
    → slice_get items place ≡ Some (slice_index items place)
stands_at items place low = slice_get-get_or items place 0 low
