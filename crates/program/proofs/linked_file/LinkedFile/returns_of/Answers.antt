use Rattle.std.proofs.Common.{◌≡◌, Some, refl, ap, ◌∙◌}
use Rattle.std.proofs.lemmas.Option.{same_Some}
use Rattle.program.specs.declared.signature.Signature.{Signature}
use Rattle.program.specs.Signatures.{signature_of}
use Rattle.program.proofs.linked_file.LinkedFile.returns_of.Goals as goal

pub returns-in-Some : goal.returns-in-Some
returns-in-Some c =
    let fits = c.args.self.now.signatures_fit.each c.args.method.now.descriptor in
    record {
      descriptor = λ d.
          let same : Some c.in-Some.signature.now ≡ Some (signature_of d) = c.in-Some.ensures ∙ fits.descriptor d in
          ap (λ (s : Signature). s.returns) (same_Some c.in-Some.signature.now (signature_of d) same);
      other = λ none. absurd (cc (c.in-Some.ensures, fits.other none));
    }

pub returns-in-None : goal.returns-in-None
returns-in-None c =
    let fits = c.args.self.now.signatures_fit.each c.args.method.now.descriptor in
    record {
      descriptor = λ d. absurd (cc (c.in-None.ensures, fits.descriptor d));
      other = λ none. refl;
    }
