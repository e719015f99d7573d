use Rattle.std.proofs.Common.{◌≡◌, ◌<◌, ◌⊎◌, List, All, length, map, subst, sym}
use Rattle.std.specs.String.{string_bytes}
use Rattle.std.proofs.lemmas.Result.{IfOk-weaker, IfErr-weaker}
use Rattle.options.specs.Classes.{AreClasses, IsMatched}
use Rattle.options.specs.Faults.{IsKnown, PatternsFail}
use Rattle.options.specs.steps.Covering.{IsKnownIn, IsMatchedClass, IsOfFirstUnknown}
use Rattle.options.specs.steps.Names.{AreNames}
use Rattle.options.specs.declared.fault.OptionFault.TheVariants.{Memory}
use Rattle.options.specs.declared.sorted_names.DottedName.{DottedName}
use Rattle.options.proofs.MatchedLemmas.{names_within, classes_are, all_are_known, fails_so}
use Rattle.options.proofs.matching.matched_in.Goals as goal

pub matched_among-requires-clause-within : goal.matched_among-requires-clause-within
matched_among-requires-clause-within c =
    subst (λ (names : List DottedName). All (λ (n : DottedName). n.class < length names) names)
    (sym c.deref.ensures.value) (names_within c.args.family.now c.in-Ok.names.items c.in-Ok.ensures.names)

pub returns-in-Ok-clause-flags : goal.returns-in-Ok-clause-flags
returns-in-Ok-clause-flags c =
    let family = c.args.family.now in
    let names = c.deref.result.now in
    let are : AreNames family (length family) names =
    subst (AreNames family (length family)) (sym c.deref.ensures.value) c.in-Ok.ensures.names in
    IfOk-weaker c.matched_among.result
    (λ flags. AreClasses flags.items (IsMatchedClass names (map string_bytes c.texts.result.now)))
    (λ flags. AreClasses flags.items (IsMatched family c.args.patterns.now))
    (λ flags each. rw (← c.texts.ensures)
    (classes_are family names are flags.items (map string_bytes c.texts.result.now) each))
    c.matched_among.ensures.flags

pub returns-in-Ok-clause-known : goal.returns-in-Ok-clause-known
returns-in-Ok-clause-known c =
    let family = c.args.family.now in
    let names = c.deref.result.now in
    let are : AreNames family (length family) names =
    subst (AreNames family (length family)) (sym c.deref.ensures.value) c.in-Ok.ensures.names in
    IfOk-weaker c.matched_among.result (λ _. All (IsKnownIn names) (map string_bytes c.texts.result.now))
    (λ _. All (IsKnown family) c.args.patterns.now)
    (λ _ all. rw (← c.texts.ensures) (all_are_known family names are (map string_bytes c.texts.result.now) all))
    c.matched_among.ensures.known

pub returns-in-Ok-clause-fault : goal.returns-in-Ok-clause-fault
returns-in-Ok-clause-fault c =
    let family = c.args.family.now in
    let names = c.deref.result.now in
    let are : AreNames family (length family) names =
    subst (AreNames family (length family)) (sym c.deref.ensures.value) c.in-Ok.ensures.names in
    IfErr-weaker c.matched_among.result
    (λ fault. (fault ≡ Memory) ⊎ IsOfFirstUnknown names (map string_bytes c.texts.result.now) fault)
    (λ fault. (fault ≡ Memory) ⊎ PatternsFail family c.args.patterns.now fault)
    (λ fault why. rw (← c.texts.ensures)
    (fails_so family names are (map string_bytes c.texts.result.now) fault why))
    c.matched_among.ensures.fault
