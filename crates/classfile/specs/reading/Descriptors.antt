-- Descriptors of fields and methods.
use Rattle.std.specs.Prelude.{ℕ, ◌+◌, Bool, true, false, ◌||◌, List, [], ◌∷◌, nat_lt, ◌==◌, if◌then◌else◌}
use Rattle.classfile.specs.declared.descriptor.ScanState.{ScanState}
use Rattle.classfile.specs.declared.descriptor.ScanState.TheVariants as states

abbrev pub is_base : ℕ → Bool
is_base b = b == 66 || b == 67 || b == 68 || b == 70 || b == 73 || b == 74 || b == 83 || b == 90

unfoldable pub step : ScanState → ℕ → ScanState
step states.Open b = if b == 40 then states.Parameter 0 else states.Bad
step (states.Parameter depth) b =
    if b == 41 then (if depth == 0 then states.Last 0 true else states.Bad) else
    (if b == 91 then (if nat_lt depth 255 then states.Parameter (depth + 1) else states.Bad) else
    (if b == 76 then states.ParameterName true else
    (if is_base b then states.Parameter 0 else states.Bad)))
step (states.ParameterName is_empty) b =
    if b == 59 then (if is_empty then states.Bad else states.Parameter 0) else states.ParameterName false
step (states.Last depth may_be_void) b =
    if b == 86 then (if may_be_void then states.End else states.Bad) else
    (if b == 91 then (if nat_lt depth 255 then states.Last (depth + 1) false else states.Bad) else
    (if b == 76 then states.LastName true else
    (if is_base b then states.End else states.Bad)))
step (states.LastName is_empty) b =
    if b == 59 then (if is_empty then states.Bad else states.End) else states.LastName false
step states.End b = states.Bad
step states.Bad b = states.Bad

abbrev pub is_end : ScanState → Bool
is_end states.End = true
is_end _ = false

abbrev pub scan : ScanState → List ℕ → Bool
scan state [] = is_end state
scan state (b ∷ bs) = scan (step state b) bs

abbrev pub is_field : List ℕ → Bool
is_field bytes = scan (states.Last 0 false) bytes

abbrev pub is_method : List ℕ → Bool
is_method bytes = scan states.Open bytes

abbrev pub lacks_semicolon : List ℕ → Bool
lacks_semicolon [] = true
lacks_semicolon (b ∷ bs) = if b == 59 then false else lacks_semicolon bs

-- an array's descriptor, or a name that isn't empty and has no `;`
unfoldable pub is_class_name : List ℕ → Bool
is_class_name [] = false
is_class_name (b ∷ bs) = if b == 91 then is_field (b ∷ bs) else lacks_semicolon (b ∷ bs)
