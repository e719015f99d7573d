use Rattle.std.proofs.Common.{◌≡◌, ◌<◌, ◌+◌, ℕ, Option, Some, ◌∷◌, [], length, take, get_or, sym, ap, subst, arith, ◌∙◌}
use Rattle.std.specs.List.{Contains}
use Rattle.std.proofs.lemmas.Option.{slice_get-get_or}
use Rattle.loading.proofs.PlaceLemmas.{contains_at}
use Rattle.loading.specs.Families.{Family}
use Rattle.hierarchy.specs.steps.Answers.{classes_with}
use Rattle.hierarchy.specs.steps.DeclarationBits.{Knows, known_of}
use Rattle.hierarchy.specs.steps.HierarchyTables.{wanted_in}
use Rattle.hierarchy.specs.declared.wanted.Wanted.{Wanted}
use Rattle.hierarchy.proofs.AnswersLemmas.{default_told, has_taken}
use Rattle.hierarchy.proofs.WindowsLemmas.{own_noted}
use Rattle.hierarchy.proofs.hierarchy.Hierarchy.look_at_all.Goals as goal

pub look-requires-clause-told : goal.look-requires-clause-told
look-requires-clause-told c = λ n e name class fits at numbers small.
    let h = c.args.self.now in
    let declared = c.args.declared.now in
    let start = c.loop-start.start in
    let declares : ℕ → Option ℕ = wanted_in c.args.wanted h.family name in
    let listed : Contains declared e = contains_at declared (start + n) e at in
    subst (λ (f : Family). Knows f declares (class ∷ []) e.member.class e.member.index n
    (known_of c.fill.new.rows class)) c.family.ensures
    (c.fill.ensures.filled declares e.member.class e.member.index n class fits
    ((c.requires.declared e listed).there name numbers)
    (λ x low. own_noted h c.args.wanted declared start (length declared) c.note.new.own (omega arith)
    c.requires.declared c.note.ensures.noted n fits e at name numbers (c.requires.wholes e listed) x
    (omega (
      arith,
      subst (λ (f : Family). x < length f) c.family.ensures low,
      c.note.ensures.len,
      c.loop-start.invariant.own,
    )))
    (subst (λ (f : Family). class < length f) (sym c.family.ensures) small))

pub returns-clause-resolved : goal.returns-clause-resolved
returns-clause-resolved c = λ i d small name numbers.
    let h = c.args.self.now in
    let declared = c.args.declared.now in
    let start = c.loop-start.start in
    let a = get_or c.loop-start.answers i d in
    let known = c.loop-start.invariant.answers i d small in
    let tells = known.tells name numbers in
    record {
      first = tells.first;
      none = tells.none;
      defaults = λ kind lacks. default_told h.family name a.class (classes_with a.key (take start declared))
          (λ j k has.
          let listed = known.whole name j k numbers
          (subst (λ (w : Wanted). wanted_in w h.family name j ≡ Some k) (sym kind) has) in
          let p = listed.1.0 in
          subst (Contains (classes_with a.key (take start declared))) listed.3
          (has_taken a.key declared start p listed.0 (omega (arith, listed.1.1, c.loop-start-test.false))
          (slice_get-get_or declared p listed.0 listed.1.1 ∙ ap Some listed.1.2) listed.2))
          a.defaults (tells.defaults kind lacks);
    }
