-- Reading attributes that are kept unread, and Code.
use Rattle.std.specs.Prelude.{ℕ, Bool, ◌&&◌, List, [], ◌∷◌, length, Result, Ok, Err, nat_lt, nat_le, if◌then◌else◌}
use Rattle.std.specs.Int.{w16, w32}
use Rattle.classfile.specs.declared.fault.ClassFault.{ClassFault}
use Rattle.classfile.specs.declared.fault.ClassFault.TheVariants as faults
use Rattle.classfile.specs.declared.constant.Constant.{Constant}
use Rattle.classfile.specs.declared.unread.UnreadAttribute.{UnreadAttribute}
use Rattle.classfile.specs.declared.exceptions.ExceptionHandler.{ExceptionHandler}
use Rattle.classfile.specs.declared.code.Code.{Code}
use Rattle.classfile.specs.reading.Numbers.{◌>>=◌, number_at, run_at}
use Rattle.classfile.specs.Gives.{offset}
use Rattle.classfile.specs.declared.index.WantedConstant.{WantedConstant}
use Rattle.classfile.specs.declared.index.WantedConstant.TheVariants as wanted
use Rattle.classfile.specs.reading.LookupTests.{has_utf8, is_class, is_class_or_none, is_plain_class}
use Rattle.classfile.specs.reading.Repeat.{table_at}

-- an index of a constant that passes a test
abbrev pub index_at : (ℕ → Bool) → ℕ → List ℕ → Result (ℕ × List ℕ) ClassFault
index_at test total bytes = number_at w16 total bytes >>= λ index. if test index.0 then Ok index
    else Err (faults.Index (offset total bytes))

-- what is wanted stands at an index
abbrev pub is_wanted : WantedConstant → List Constant → ℕ → Bool
is_wanted wanted.Utf8 = has_utf8
is_wanted wanted.Class = is_class
is_wanted wanted.PlainClass = is_plain_class
is_wanted wanted.ClassOrNone = is_class_or_none

abbrev pub utf8_index_at : List Constant → ℕ → List ℕ → Result (ℕ × List ℕ) ClassFault
utf8_index_at pool total bytes = index_at (has_utf8 pool) total bytes

-- a length, and so many bytes
unfoldable pub content_at : ℕ → List ℕ → Result (List ℕ × List ℕ) ClassFault
content_at total bytes = number_at w32 total bytes >>= λ count. run_at count.0 total count.1

-- an attribute's name, and so many bytes as its length says
unfoldable pub framed_at : List Constant → ℕ → List ℕ → Result ((ℕ × List ℕ) × List ℕ) ClassFault
framed_at pool total bytes = do
  name ← utf8_index_at pool total bytes
  count ← number_at w32 total name.1
  content ← run_at count.0 total count.1
  Ok ((name.0, content.0), content.1)

abbrev pub unread_of : ℕ → List ℕ → UnreadAttribute
unread_of name content = record { name = name; bytes = content }

unfoldable pub unread_at : List Constant → ℕ → List ℕ → Result (UnreadAttribute × List ℕ) ClassFault
unread_at pool total bytes = framed_at pool total bytes >>= λ framed. Ok (unread_of framed.0.0 framed.0.1, framed.1)

unfoldable pub unread_attributes_at : List Constant → ℕ → List ℕ → Result (List UnreadAttribute × List ℕ) ClassFault
unread_attributes_at pool total bytes = table_at (λ earlier. unread_at pool total) total bytes

abbrev pub handler_of : ℕ → ℕ → ℕ → ℕ → ExceptionHandler
handler_of start end' handler catch =
    record { start_pc = start; end_pc = end'; handler_pc = handler; catch_type = catch }

abbrev pub is_handler : List Constant → ℕ → ExceptionHandler → Bool
is_handler pool code_length h = nat_lt h.start_pc h.end_pc && nat_le h.end_pc code_length
    && nat_lt h.handler_pc code_length
    && is_class_or_none pool h.catch_type

unfoldable pub handler_numbers_at : ℕ → List ℕ → Result (ExceptionHandler × List ℕ) ClassFault
handler_numbers_at total bytes = do
  start ← number_at w16 total bytes
  end' ← number_at w16 total start.1
  handler ← number_at w16 total end'.1
  catch ← number_at w16 total handler.1
  Ok (handler_of start.0 end'.0 handler.0 catch.0, catch.1)

unfoldable pub handler_at : List Constant → ℕ → ℕ → List ℕ → Result (ExceptionHandler × List ℕ) ClassFault
handler_at pool code_length total bytes =
    handler_numbers_at total bytes >>= λ h. if is_handler pool code_length h.0 then Ok h
    else Err (faults.Index (offset total bytes))

unfoldable pub exceptions_at : List Constant → ℕ → ℕ → List ℕ → Result (List ExceptionHandler × List ℕ) ClassFault
exceptions_at pool code_length total bytes = table_at (λ earlier. handler_at pool code_length total) total bytes

abbrev pub is_code_length : ℕ → Bool
is_code_length n = nat_lt 0 n && nat_lt n 65536

-- the length of the code, from 1 to 65,535
unfoldable pub code_length_at : ℕ → List ℕ → Result (ℕ × List ℕ) ClassFault
code_length_at total bytes =
    number_at w32 total bytes >>= λ n. if is_code_length n.0 then Ok n else Err (faults.Index (offset total bytes))

unfoldable pub code_bytes_at : ℕ → List ℕ → Result (List ℕ × List ℕ) ClassFault
code_bytes_at total bytes = code_length_at total bytes >>= λ n. run_at n.0 total n.1

abbrev pub code_of : ℕ → ℕ → List ℕ → List ExceptionHandler → List UnreadAttribute → Code
code_of max_stack max_locals code exceptions attributes = record {
  max_stack = max_stack;
  max_locals = max_locals;
  code = code;
  exceptions = exceptions;
  attributes = attributes;
}

-- what is after the limits of code
unfoldable pub limited_code_at : List Constant → ℕ → ℕ → ℕ → List ℕ → Result (Code × List ℕ) ClassFault
limited_code_at pool max_stack max_locals total bytes = do
  code ← code_bytes_at total bytes
  exceptions ← exceptions_at pool (length code.0) total code.1
  attributes ← unread_attributes_at pool total exceptions.1
  Ok (code_of max_stack max_locals code.0 exceptions.0 attributes.0, attributes.1)

-- an exception table, and attributes that are kept unread
unfoldable pub code_tables_at : List Constant → ℕ → ℕ → List ℕ
    → Result ((List ExceptionHandler × List UnreadAttribute) × List ℕ) ClassFault
code_tables_at pool code_length total bytes = do
  exceptions ← exceptions_at pool code_length total bytes
  attributes ← unread_attributes_at pool total exceptions.1
  Ok ((exceptions.0, attributes.0), attributes.1)

unfoldable pub code_at : List Constant → ℕ → List ℕ → Result (Code × List ℕ) ClassFault
code_at pool total bytes = do
  max_stack ← number_at w16 total bytes
  max_locals ← number_at w16 total max_stack.1
  code ← code_bytes_at total max_locals.1
  exceptions ← exceptions_at pool (length code.0) total code.1
  attributes ← unread_attributes_at pool total exceptions.1
  Ok (code_of max_stack.0 max_locals.0 code.0 exceptions.0 attributes.0, attributes.1)

-- a value and nothing after it
abbrev pub ends_at : {X : Type 0} → ℕ → X × List ℕ → Result X ClassFault
ends_at total (x, []) = Ok x
ends_at total (x, (b ∷ bs)) = Err (faults.Extra (offset total (b ∷ bs)))

-- Code that fills its attribute
unfoldable pub whole_code : List Constant → List ℕ → Result Code ClassFault
whole_code pool bytes = code_at pool (length bytes) bytes >>= λ code. ends_at (length bytes) code
