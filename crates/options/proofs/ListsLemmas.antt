-- The first empty item of a list.
use Rattle.std.proofs.Common.{◌≡◌, ℕ, ◌+◌, ◌<◌, ◌≤◌, Bool, true, false, List, [], length, take, Some}
use Rattle.std.proofs.Common.{sym, ap, ◌∙◌}
use Rattle.std.proofs.Common.{get_or, subst, eqb, Bor, inr, ◌⊎◌}
use Rattle.std.specs.List.{All}
use Rattle.std.proofs.lemmas.Bool.{eqb-true}
use Rattle.std.proofs.lemmas.List.{nil_from_length, length-map, take_all}
use Rattle.options.specs.Lists.{IsNonEmpty, IsFirstEmpty, ListFails, empty, items_of}
use Rattle.options.specs.declared.fault.OptionFault.TheVariants.{Memory, Empty}
use Rattle.options.proofs.ListLemmas.{read_all, read_at, all_more}

empty_text : (text : List ℕ) (b : Bool) → b ≡ eqb (length text) 0 → b ≡ true → text ≡ []
empty_text text b is so = nil_from_length text (eqb-true (length text) 0 (sym is ∙ so))

full_text : (text : List ℕ) (b : Bool) → b ≡ eqb (length text) 0 → b ≡ false → IsNonEmpty text
full_text text true is not_so none = cc
full_text text false is not_so none = let e : false ≡ eqb 0 0 = is ∙ ap (λ (t : List ℕ). eqb (length t) 0) none in cc

pub empty_here : (items : List (Bor (List ℕ))) (place : ℕ) (d : Bor (List ℕ)) (b : Bool) → place < length items
    → b ≡ eqb (length (get_or items place d).now) 0 → b ≡ true → All IsNonEmpty (take place (read_all items))
    → IsFirstEmpty (read_all items) place
empty_here items place d b within is so before = record {
  here = read_at items place d within ∙ ap Some (empty_text (get_or items place d).now b is so);
  before = before;
}

pub full_here : (items : List (Bor (List ℕ))) (place : ℕ) (d : Bor (List ℕ)) (b : Bool) → place < length items
    → b ≡ eqb (length (get_or items place d).now) 0 → b ≡ false → All IsNonEmpty (take place (read_all items))
    → All IsNonEmpty (take (place + 1) (read_all items))
full_here items place d b within is not_so before =
    all_more IsNonEmpty (read_all items) place (get_or items place d).now (read_at items place d within) before
    (full_text (get_or items place d).now b is not_so)

pub all_full : (items : List (Bor (List ℕ))) (place : ℕ) → length items ≤ place
    → All IsNonEmpty (take place (read_all items)) → All IsNonEmpty (read_all items)
all_full items place end before =
    let whole : take place (read_all items) ≡ read_all items = take_all place (read_all items) (rw length-map end) in
    subst (All IsNonEmpty) whole before

pub list_fails : (text : List ℕ) (items : List (List ℕ)) (place : ℕ) → items ≡ items_of text
    → IsFirstEmpty items place → (Empty place ≡ Memory) ⊎ ListFails text (Empty place)
list_fails text items place is first = inr (empty (subst (λ (l : List (List ℕ)). IsFirstEmpty l place) is first))
