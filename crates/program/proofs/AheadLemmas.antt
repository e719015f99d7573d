-- What references to members stand for, with one more.
use Rattle.std.proofs.Common.{◌≡◌, ◌≢◌, ℕ, ◌⊎◌, inl, inr, true, false, eqb, List, Option, Some, None, set}
use Rattle.std.proofs.Common.{sym, ap, subst, ◌∙◌}
use Rattle.std.specs.Prelude.{slice_get}
use Rattle.std.proofs.lemmas.Bool.Decides.{eqb_tells}
use Rattle.std.proofs.lemmas.List.{get_or-set_other}
use Rattle.classfile.specs.ClassFile.{ClassFile}
use Rattle.classfile.specs.declared.constant.Constant.{Constant}
use Rattle.loading.specs.Families.{Family}
use Rattle.program.specs.declared.runtime_constant.RuntimeConstant.{RuntimeConstant}
use Rattle.program.specs.steps.Ahead.{ahead_at, AreAhead}
use Rattle.program.specs.steps.ResolvedConstants.{IsResolved}
use Rattle.program.proofs.RuntimePoolLemmas.{same_entry}
use Rattle.program.proofs.NotedLemmas.{noted_is}

pub ahead_of_none : (family : Family) (f : ClassFile) (ahead : List (Option RuntimeConstant))
    → ((index : ℕ) → ahead_at ahead index ≡ None) → AreAhead family f ahead
ahead_of_none family f ahead none = λ index constant held at noted.
    absurd (let clash : None ≡ Some held = sym (none index) ∙ noted in cc)

-- equal references stand for the same
pub same_resolved : (family : Family) (f : ClassFile) (i j : ℕ) (constant : Constant) (held : RuntimeConstant)
    → slice_get f.constants i ≡ slice_get f.constants j → IsResolved family f i constant held
    → IsResolved family f j constant held
same_resolved family f i j constant held e is = λ strings plain.
    same_entry family strings f i j constant held e (is strings plain)

pub ahead_more : (family : Family) (f : ClassFile) (old : List (Option RuntimeConstant)) (index : ℕ)
    (constant : Constant) (held : RuntimeConstant) → AreAhead family f old
    → slice_get f.constants index ≡ Some constant → IsResolved family f index constant held
    → AreAhead family f (set old index (Some held))
ahead_more family f old index constant held was there is key other also at noted = by (eqb_tells key index)
  where
    by : ((eqb key index ≡ true) × (key ≡ index)) ⊎ ((eqb key index ≡ false) × (key ≢ index))
        → IsResolved family f key other also
    by (inl same) =
        let same_held : also ≡ held = noted_is old index key held also same.1 noted in
        let entries : Some constant ≡ Some other = sym there ∙ ap (slice_get f.constants) (sym same.1) ∙ at in
        let same_entry : constant ≡ other = cc in
        subst (λ (k : ℕ). IsResolved family f k other also) (sym same.1)
        (subst (λ (c : Constant). IsResolved family f index c also) same_entry
        (subst (IsResolved family f index constant) (sym same_held) is))
    by (inr differs) = was key other also at (sym (get_or-set_other old index key (Some held) None differs.1) ∙ noted)
