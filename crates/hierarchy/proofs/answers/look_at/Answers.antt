use Rattle.std.proofs.Common.{◌≡◌, ◌<◌, ◌+◌, ℕ, ◌∷◌, [], Option, Some, IfSome, slice_get, sym, subst, ◌∙◌, bit_and}
use Rattle.hierarchy.specs.steps.DeclarationBits.{Has, Knows}
use Rattle.hierarchy.specs.steps.Declarations.{AreDeclared}
use Rattle.hierarchy.specs.steps.HierarchyTables.{wanted_in}
use Rattle.hierarchy.specs.steps.MemberKeys.{AreNumbers}
use Rattle.hierarchy.specs.Search.{Search}
use Rattle.hierarchy.specs.declared.declarations.Declaration.{Declaration}
use Rattle.hierarchy.specs.declared.member.DeclaredMember.{DeclaredMember}
use Rattle.hierarchy.specs.declared.wanted.Wanted.{Wanted}
use Rattle.hierarchy.proofs.AnswersLemmas.{first_there, nothing_there, default_bits}
use Rattle.hierarchy.proofs.DefaultsLemmas.{some_by}
use Rattle.hierarchy.proofs.WordLemmas.{both}
use Rattle.hierarchy.proofs.answers.look_at.Goals as goal
use Rattle.hierarchy.proofs.answers.look_at.Goals.{in-Some, in-None, then-answer, else-answer, in-InterfaceMethod}
use Rattle.hierarchy.proofs.answers.look_at.Goals.{in_default}

pub returns : goal.returns
returns c =
    let h = c.args.hierarchy.now in
    let declared = c.args.declared.now in
    let start = c.args.start in
    let answer = c.args.answer in
    let mask = c.args.mask in
    let known = c.args.known in
    record {
      within = c.requires.answer.within;
      whole = c.requires.answer.whole;
      tells = λ name numbers.
          let before = c.requires.answer.tells name numbers in
          let declares : ℕ → Option ℕ = wanted_in c.args.wanted h.family name in
          let told : (n : ℕ) (e : Declaration) → n < 64 → slice_get declared (start + n) ≡ Some e
          → AreNumbers h.texts name e.key
          → Knows h.family declares (answer.class ∷ []) e.member.class e.member.index n known =
          λ n e small at is. c.requires.told n e name small at is in
          record {
            first = λ m is. elim c.match-answer.branch [
              | in-Some w ↦ before.first m (w.in-Some.is ∙ sym w.result-is ∙ is)
              | in-None w ↦
                  let there = w.first_of.ensures m (sym w.result-is ∙ is) in
                  subst (λ (x : DeclaredMember). Search h.family declares (answer.class ∷ []) (Some x)) there.5
                  (first_there h.family h.texts declares declared start name answer.class answer.key mask known
                  c.requires.mask c.requires.key numbers told there.0 there.1 there.2 there.3 there.4)
            ];
            none = λ is. elim c.if-answer.branch [
              | then-answer w ↦ before.none w.if-answer.true
              | else-answer w ↦
                  let some = some_by w.first_bit.result (sym w.is_some.ensures ∙ sym w.result-is ∙ is) in
                  let bit : (some.0 < 64) × Has w.without.result some.0 =
                  subst (λ (o : Option ℕ). IfSome o (λ n. (n < 64) × Has w.without.result n)) some.1
                  w.first_bit.ensures.some in
                  let parts = (w.without.ensures some.0 bit.0).0 bit.1 in
                  nothing_there h.family h.texts declares declared start name answer.class answer.key mask known
                  c.requires.mask c.requires.key numbers told some.0 bit.0 parts.0 parts.1
            ];
            defaults = λ kind lacks. elim c.match-wanted.branch [
              | in-InterfaceMethod w ↦
                  rw w.result-is (w.with_defaults.ensures h.family name answer.class answer.key
                  (default_bits h declared start name answer.class answer.key mask known
                  w.without-in-InterfaceMethod.result (bit_and known.present mask.coded) lacks c.requires.mask
                  c.requires.key numbers
                  (subst (λ (k : Wanted). AreDeclared h k declared) kind c.requires.declared)
                  (subst (λ (k : Wanted). (n : ℕ) (e : Declaration) → n < 64
                  → slice_get declared (start + n) ≡ Some e → AreNumbers h.texts name e.key
                  → Knows h.family (wanted_in k h.family name) (answer.class ∷ []) e.member.class e.member.index n
                  known)
                  kind told)
                  (λ n small. w.without-in-InterfaceMethod.ensures n small)
                  (λ n. both known.present mask.coded n))
                  (before.defaults kind lacks))
              | in_default w ↦ absurd (w.in_default.not-InterfaceMethod kind)
            ];
          };
    }
