use Rattle.std.proofs.Common.{◌≡◌, ◌⊎◌, ◌++◌, ◌∷◌, [], ℕ, List, ap, subst, sym, ◌∙◌, arith}
use Rattle.std.proofs.lemmas.Result.{on_ok_weaker}
use Rattle.classfile.specs.Units.{units_text}
use Rattle.program.specs.Programs.{IsProgram}
use Rattle.program.specs.Strings.{IsText}
use Rattle.program.specs.Tables.{Tables}
use Rattle.program.proofs.AddedStringsLemmas.{same_or_more, still_distinct, text_of_units, with_strings}
use Rattle.program.proofs.linked_program.Program.add_string.Goals as goal

pub invariant_of-self : goal.invariant_of-self
invariant_of-self c =
    let old : Tables = record {
      family = c.self.inside.hierarchy.family;
      orders = c.self.inside.orders;
      classes = c.self.inside.classes.items;
      strings = c.self.inside.strings;
    } in
    let new = c.add.new.self in
    let text = c.bytes.result.now in
    let spelled : text ≡ units_text c.args.units.now =
    c.bytes.ensures.is ∙ c.in_ok-text.ensures in
    let fits : IsText text =
    text_of_units c.args.units.now text c.requires (λ i. omega (arith, c.type_inv.units i)) spelled in
    let added = c.add.ensures in (
      with_strings old new text fits added.keeps
          (still_distinct c.add.result old.strings new added.distinct added.err c.self.invariant.0.distinct)
          (same_or_more c.add.result old.strings new text added.same added.last added.err) c.self.invariant.0,
      c.self.invariant.1,
      c.self.invariant.2,
    )

pub returns-clause-strings : goal.returns-clause-strings
returns-clause-strings c =
    let held : c.self.inside.strings ≡ c.args.self.now.strings = ap (λ (P : Tables). P.strings) c.self.view_is in
    let spelled : c.bytes.result.now ≡ units_text c.args.units.now =
    c.bytes.ensures.is ∙ c.in_ok-text.ensures in
    subst (λ (old : List (List ℕ)). (c.add.new.self ≡ old) ⊎ (c.add.new.self ≡ old ++ units_text c.args.units.now ∷ []))
    held
    (subst (λ text. (c.add.new.self ≡ c.self.inside.strings) ⊎ (c.add.new.self ≡ c.self.inside.strings ++ text ∷ []))
    spelled
    (same_or_more c.add.result c.self.inside.strings c.add.new.self c.bytes.result.now c.add.ensures.same
    c.add.ensures.last c.add.ensures.err))

pub returns-clause-program : goal.returns-clause-program
returns-clause-program c =
    on_ok_weaker c.add.result (λ apart. (invariant_of-self c).0) c.add.ensures.distinct
