-- Orders of initialization from lists of interfaces.
use Rattle.std.proofs.Common.{◌≡◌, ℕ, Bool, true, false, cond, List, [], ◌∷◌, ◌++◌, get_or}
use Rattle.std.proofs.Common.{refl, sym, ap, ◌∙◌, subst, append_assoc}
use Rattle.std.specs.List.{Contains, filter}
use Rattle.std.proofs.lemmas.List.Elements.{filter_agree}
use Rattle.loading.specs.Families.{Family, IsFamily, is_interface_in, interfaces_in}
use Rattle.hierarchy.specs.Search.{firsts}
use Rattle.hierarchy.specs.Initialization.{is_initialized_first}
use Rattle.hierarchy.specs.steps.InterfaceOrders.{AddsInterfaces, Gathers, TellFirst}
use Rattle.hierarchy.specs.steps.Ascents.{ParentsBefore, none, next}
use Rattle.hierarchy.proofs.AboveLemmas.{interface_parents}
use Rattle.hierarchy.proofs.FirstsLemmas.{filter_again, kept_joined}
use Rattle.hierarchy.proofs.InterfaceOrdersLemmas.{flags_tell, superinterfaces_first}

before_append : {family : Family} {is all js more : List ℕ} → ParentsBefore family is all
    → ParentsBefore family js more → ParentsBefore family (is ++ js) (all ++ more)
before_append none h = h
before_append {family} {js = js} {more = more} (next {c} {cs} {above = low} {rest} lower higher) h =
    subst (λ (all : List ℕ). ParentsBefore family (c ∷ (cs ++ js)) all) (sym (append_assoc low (c ∷ rest) more))
    (next lower (before_append higher h))

pub gathers_none : (family : Family) → Gathers family [] []
gathers_none family = record { all = []; stand = none; kept = refl }

-- the list of one interface more
pub gathers_more : (family : Family) (is seen list new : List ℕ) (i : ℕ) → Gathers family is seen
    → Gathers family (i ∷ []) list → new ≡ firsts (seen ++ list) → Gathers family (is ++ i ∷ []) new
gathers_more family is seen list new i before one added = record {
  all = before.all ++ one.all;
  stand = before_append before.stand one.stand;
  kept = kept_joined (is_initialized_first family) seen list new before.all one.all before.kept one.kept added;
}

-- an interface after those above it
pub gathers_own : (family : Family) (c : ℕ) (seen new : List ℕ) (b : Bool) → IsFamily family
    → is_interface_in family c ≡ true → Gathers family (interfaces_in family c) seen → is_initialized_first family c ≡ b
    → new ≡ firsts (seen ++ cond b (c ∷ []) []) → Gathers family (c ∷ []) new
gathers_own family c seen new b fits is above test added = record {
  all = above.all ++ c ∷ [];
  stand = next (subst (λ (is : List ℕ). ParentsBefore family is above.all) (sym (interface_parents family c fits is))
      above.stand) none;
  kept = kept_joined p seen (cond b (c ∷ []) []) new above.all (c ∷ []) above.kept (itself b test) added;
}
  where
    p : ℕ → Bool
    p = is_initialized_first family

    itself : (b : Bool) → p c ≡ b → filter p (cond b (c ∷ []) []) ≡ filter p (firsts (c ∷ []))
    itself true e = refl
    itself false e = sym (ap (λ (b : Bool). cond b (c ∷ []) []) e)

-- of a list those alone that are initialized
pub gathers_flagged : (family : Family) (is seen list : List ℕ) (flags : List Bool) → TellFirst family flags
    → Gathers family is seen → list ≡ [] ++ filter (λ c. get_or flags c false) seen → Gathers family is list
gathers_flagged family is seen list flags tells before added = record {
  all = before.all;
  stand = before.stand;
  kept = filter_again (is_initialized_first family) list seen
      (filter (is_initialized_first family) (firsts before.all))
      (added ∙ filter_agree (λ c. get_or flags c false) (is_initialized_first family)
      (λ i. flags_tell family flags i tells) seen) before.kept;
}

pub flagged_added : (family : Family) (is seen old new : List ℕ) (flags : List Bool) → IsFamily family
    → TellFirst family flags → ((i : ℕ) → Contains is i → is_interface_in family i ≡ true) → Gathers family is seen
    → new ≡ old ++ filter (λ c. get_or flags c false) seen
    → AddsInterfaces family is old new
flagged_added family is seen old new flags fits tells are gathered added = record {
  all = gathered.all;
  stand = superinterfaces_first family fits gathered.stand are;
  kept = added ∙ ap (λ (xs : List ℕ). old ++ xs)
      (filter_agree (λ c. get_or flags c false) (is_initialized_first family)
      (λ i. flags_tell family flags i tells) seen ∙ gathered.kept);
}
