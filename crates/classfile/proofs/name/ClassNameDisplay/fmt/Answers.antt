use Rattle.std.proofs.Common.{[], ◌++◌, List, ℕ, encode_utf8, encode_utf8_all, sym, ap, ◌∙◌, append_assoc, rules}
use Rattle.std.proofs.lemmas.List.{append-nil}
use Rattle.std.proofs.Output.{has_written_append, has_written_of_eq, writes_in_calls_nil}
use Rattle.classfile.specs.Printing.{printed_units}
use Rattle.classfile.proofs.PrintingLemmas.{no_chars}
use Rattle.classfile.proofs.name.ClassNameDisplay.fmt.Goals as goal

pub loop-character-init : goal.loop-character-init
loop-character-init g c = λ plain. (
  [],
  record { wrote = writes_in_calls_nil _ _; plain = plain },
  ap (λ (units : List ℕ). printed_units units) (c.as_slice-left.ensures.value ∙ c.self.view_is),
)

pub loop-character-preserved : goal.loop-character-preserved
loop-character-preserved g c =
    λ plain.
    let now = c.loop-character.invariant plain in
    let character = c.in-Some.character in (
      now.0 ++ encode_utf8 character,
      has_written_append _ _ _ _ _ _ now.1 (search rules),
      append_assoc now.0 (encode_utf8 character) _
          ∙ ap (λ (cs : List ℕ). now.0 ++ encode_utf8_all cs) (sym c.in-Some.ensures.first) ∙ now.2,
    )

pub returns-clause-writes : goal.returns-clause-writes
returns-clause-writes g c =
    λ plain ok.
    let now = c.loop-character.invariant plain in
    let none = sym no_chars ∙ ap (λ (units : List ℕ). printed_units units) (sym c.in_default.ensures.first) in
    has_written_of_eq _ _ _ _ _ (sym (append-nil now.0) ∙ ap (λ (z : List ℕ). now.0 ++ z) none ∙ now.2) now.1
