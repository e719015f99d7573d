use Rattle.std.proofs.Common.{◌≡◌, ◌∙◌, ℕ, Option, Some, None, length, sym, ap}
use Rattle.classfile.specs.ClassFile.{ClassFile}
use Rattle.loading.specs.Families.{Family, file_in}
use Rattle.program.specs.Tables.{Tables}
use Rattle.program.proofs.CountsLemmas.{methods_if, methods_counted}
use Rattle.program.proofs.linked_program.Program.method_count.Goals as goal

counted : (P : Tables) (family : Family) (class n : ℕ) (o : Option ClassFile) → family ≡ P.family
    → o ≡ file_in family class → n ≡ length (methods_if o)
    → n ≡ length (methods_if (file_in P.family class))
counted P family class n o same at count =
    count ∙ ap (λ (x : Option ClassFile). length (methods_if x)) (at ∙ ap (λ (f : Family). file_in f class) same)

pub returns-in-Some : goal.returns-in-Some
returns-in-Some c =
    counted c.args.self.now c.family.result.now c.args.class (length c.methods.result.now) (Some c.in-Some.file.now)
    (c.family.ensures ∙ ap (λ (P : Tables). P.family) c.self.view_is) c.in-Some.ensures
    (ap length c.methods.ensures.value)
    ∙ methods_counted c.args.self.now c.classes-classes.ensures.fits c.args.class

pub returns-in-None : goal.returns-in-None
returns-in-None c =
    counted c.args.self.now c.family.result.now c.args.class 0 None
    (c.family.ensures ∙ ap (λ (P : Tables). P.family) c.self.view_is) c.in-None.ensures
    (λ i. 0)
    ∙ methods_counted c.args.self.now c.classes-classes.ensures.fits c.args.class
