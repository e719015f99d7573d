-- Exception handlers: which entry of a method's exception table takes an exception (JVMS 2.10, 4.7.3).
use Rattle.std.specs.Prelude.{ℕ, ◌==◌, ◌&&◌, Bool, true, false, List, Option, Some, None, nat_le, nat_lt, slice_get}
use Rattle.std.specs.Prelude.{unwrap_or, ◌^◌, ◌-◌}
use Rattle.std.specs.List.{find, position_from}
use Rattle.built_in.specs.declared.class_id.ClassId.{ClassId}
use Rattle.bytecode.specs.declared.placed.Placed.{Placed}
use Rattle.vm_state.specs.declared.frame.Activity.{Activity}
use Rattle.vm_state.specs.declared.frame.Activity.TheVariants.{Start, Method}
use Rattle.loading.specs.Families.{Family}
use Rattle.hierarchy.specs.Subtypes.{is_below}
use Rattle.program.specs.declared.handler.Catches.{Catches}
use Rattle.program.specs.declared.handler.Catches.TheVariants.{Anything, Class}
use Rattle.program.specs.declared.handler.Handler.{Handler}
use Rattle.program.specs.declared.class.MethodCode.{MethodCode}
use Rattle.program.specs.declared.class.Implementation.{Implementation}
use Rattle.program.specs.declared.class.Implementation.TheVariants as implementations
use Rattle.program.specs.Tables.{Tables, implementation_at}

-- whether objects of a class are caught; none are by a name of no class
abbrev pub catches : Family → ClassId → Catches → Bool
catches family class Anything = true
catches family class (Class None) = false
catches family class (Class (Some other)) = is_below family class other

-- an entry is for the instructions from its start on and before its end
abbrev pub covers : ℕ → Handler → Bool
covers pc handler = nat_le handler.start_pc pc && nat_lt pc handler.end_pc

abbrev pub handles : Family → ClassId → ℕ → Handler → Bool
handles family class pc handler = covers pc handler && catches family class handler.catches

-- where no body has an instruction, as a code has at most 65,535 bytes (JVMS 4.7.3)
abbrev pub no_place : ℕ
no_place = 2 ^ 32 - 1

-- where the instruction stands that begins at a pc, if one does
abbrev pub place_from : List Placed → ℕ → ℕ
place_from body pc = unwrap_or (position_from (λ (item : Placed). item.pc == pc) 0 body) no_place

abbrev pub place_of_handler : List Placed → Option Handler → Option ℕ
place_of_handler body None = None
place_of_handler body (Some handler) = Some (place_from body handler.handler_pc)

-- the place where the first entry goes on that takes an exception of a class, thrown at a pc
abbrev pub thrown_at : Family → MethodCode → ClassId → Option Placed → Option ℕ
thrown_at family code class None = None
thrown_at family code class (Some item) =
    place_of_handler code.body (find (handles family class item.pc) code.handlers)

abbrev pub handler_in : Family → Option Implementation → ClassId → ℕ → Option ℕ
handler_in family (Some (implementations.Code code)) class place =
    thrown_at family code class (slice_get code.body place)
handler_in family _ class place = None

-- the place of the handler of an exception of a class that is thrown at a place, if there is one; a thread's start has
-- none
unfoldable pub handler_of : Tables → Activity → ℕ → ClassId → Option ℕ
handler_of P (Start c) place class = None
handler_of P (Method c m) place class = handler_in P.family (implementation_at P c m) class place
