-- What is initialized before a class, from an ascent its interfaces.
use Rattle.std.proofs.Common.{◌≡◌, ℕ, zero, suc, ◌+◌, ◌<◌, ◌≤◌, Bool, true, false, cond, List, [], ◌∷◌, ◌++◌, length}
use Rattle.std.proofs.Common.{take, get_or, Option, refl, sym, ap, ◌∙◌, subst, inl, inr, arith}
use Rattle.std.proofs.Common.{append-nil, append_assoc}
use Rattle.std.specs.List.{Contains, filter}
use Rattle.std.proofs.lemmas.Bool.{cases_lt}
use Rattle.std.proofs.lemmas.Grind.{common_steps}
use Rattle.std.proofs.lemmas.List.{take_more, length_push}
use Rattle.std.proofs.lemmas.List.Elements.{filter-append}
use Rattle.std.proofs.lemmas.Option.{slice_get_past}
use Rattle.loading.specs.declared.given.GivenClass.{GivenClass}
use Rattle.loading.specs.Families.{Family, IsFamily, parents_in, interfaces_in, is_interface_in, superclasses_in}
use Rattle.loading.specs.Families.{passes, file_of}
use Rattle.hierarchy.specs.Search.{SuperinterfacesFirst, none, next}
use Rattle.classfile.specs.ClassFile.{declares_default}
use Rattle.hierarchy.specs.Initialization.{is_initialized_first, IsInitializationOrder, class}
use Rattle.hierarchy.specs.steps.InterfaceOrders.{AddsInterfaces, TellFirst}
use Rattle.hierarchy.specs.steps.Ascents.{ParentsBefore}
use Rattle.hierarchy.specs.steps.Ascents as ascents
use Rattle.hierarchy.proofs.AboveLemmas.{interface_parents}
use Rattle.hierarchy.proofs.AscentsOrderLemmas.{in_front, in_rest}

-- ---- ascents up interfaces

-- above interfaces stand interfaces alone
pub superinterfaces_first : (family : Family) → IsFamily family → {is all : List ℕ} → ParentsBefore family is all
    → ((i : ℕ) → Contains is i → is_interface_in family i ≡ true) → SuperinterfacesFirst family is all
superinterfaces_first family fits ascents.none are = none
superinterfaces_first family fits (ascents.next {c} {cs} {above = low} {rest} lower higher) are =
    let parents : parents_in family c ≡ interfaces_in family c =
    interface_parents family c fits (are c (in_front c cs)) in
    let under : SuperinterfacesFirst family (parents_in family c) low =
    superinterfaces_first family fits lower
    (λ i h. fits.interfaces c i (subst (λ (xs : List ℕ). Contains xs i) parents h)) in
    next (subst (λ (xs : List ℕ). SuperinterfacesFirst family xs low) parents under)
    (superinterfaces_first family fits higher (λ i h. are i (in_rest c cs i h)))

get_or_past : (flags : List Bool) (i : ℕ) → length flags ≤ i → get_or flags i false ≡ false
get_or_past [] i past = refl
get_or_past (m ∷ flags) zero past = absurd (omega (arith, past))
get_or_past (m ∷ flags) (suc i) past = get_or_past flags i (omega arith)

-- a number of no class is not initialized
pub flags_tell : (family : Family) (flags : List Bool) (i : ℕ) → TellFirst family flags
    → get_or flags i false ≡ is_initialized_first family i
flags_tell family flags i are = elim (cases_lt i (length flags)) [
  | inl small ↦ are.tell i small
  | inr past ↦ get_or_past flags i past
      ∙ sym (ap (λ (g : Option GivenClass). passes declares_default (file_of g))
      (slice_get_past family i (omega (arith, are.count))))
]

-- one more class is flagged
pub flagged_next : (family : Family) (old new : List Bool) (b : Bool) (c : ℕ) → new ≡ old ++ b ∷ []
    → length old ≡ c
    → b ≡ is_initialized_first family c
    → ((i : ℕ) → i < length old → get_or old i false ≡ is_initialized_first family i)
    → (i : ℕ) → i < length new → get_or new i false ≡ is_initialized_first family i
flagged_next family old new b c push count is before i small = elim (cases_lt i (length old)) [
  | inl less ↦ rw push (earlier less ∙ before i less)
  | inr last ↦ (let at : i ≡ length old = omega (arith, ap length push, length_push old b) in
      rw (push, at) (here ∙ is ∙ ap (is_initialized_first family) (sym count)))
]
  where
    earlier : i < length old → get_or (old ++ b ∷ []) i false ≡ get_or old i false
    earlier less = grind (arith, common_steps)

    here : get_or (old ++ b ∷ []) (length old) false ≡ b
    here = grind (arith, common_steps)

-- what is initialized before a class
pub class_order : (family : Family) (c : ℕ) (list : List ℕ) → is_interface_in family c ≡ false
    → AddsInterfaces family (interfaces_in family c) (superclasses_in family c) list
    → IsInitializationOrder family c list
class_order family c list is adds = rw adds.kept (class is adds.stand)

-- one more member of a list is looked at
kept_more : (p : ℕ → Bool) (seen old now : List ℕ) (k x : ℕ) (b : Bool) → k < length seen → x ≡ get_or seen k 0
    → p x ≡ b
    → now ≡ old ++ filter p (take k seen) → now ++ cond b (x ∷ []) [] ≡ old ++ filter p (take (k + 1) seen)
kept_more p seen old now k x b small read test before =
    ap (λ (c : Bool). now ++ cond c (x ∷ []) []) (sym test)
    ∙ ap (λ (xs : List ℕ). xs ++ filter p (x ∷ [])) before
    ∙ append_assoc old (filter p (take k seen)) (filter p (x ∷ []))
    ∙ ap (λ (xs : List ℕ). old ++ xs) (sym (filter-append p (take k seen) (x ∷ []))
    ∙ ap (filter p) (ap (λ (y : ℕ). take k seen ++ y ∷ []) read ∙ sym (take_more seen k 0 small)))

pub kept_one : (p : ℕ → Bool) (seen old now new : List ℕ) (k x : ℕ) → k < length seen → x ≡ get_or seen k 0
    → p x ≡ true
    → now ≡ old ++ filter p (take k seen) → new ≡ now ++ x ∷ [] → new ≡ old ++ filter p (take (k + 1) seen)
kept_one p seen old now new k x small read test before push =
    push ∙ kept_more p seen old now k x true small read test before

pub kept_none : (p : ℕ → Bool) (seen old now new : List ℕ) (k x : ℕ) → k < length seen → x ≡ get_or seen k 0
    → p x ≡ false
    → now ≡ old ++ filter p (take k seen) → new ≡ now → new ≡ old ++ filter p (take (k + 1) seen)
kept_none p seen old now new k x small read test before same =
    same ∙ sym (append-nil now) ∙ kept_more p seen old now k x false small read test before
