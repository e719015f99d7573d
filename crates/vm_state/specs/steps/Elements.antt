-- Values in a row, each in as many bytes as all of them need.
use Rattle.std.specs.Prelude.{ℕ, pos, List, map}
use Rattle.vm_state.specs.declared.value.Value.{Value}
use Rattle.vm_state.specs.declared.value.Value.TheVariants.{Int, Long, Null, Text, OfClass, OfThread, Out}
use Rattle.vm_state.specs.declared.elements.Brief.{Brief}
use Rattle.vm_state.specs.declared.elements.Brief.TheVariants as brief
use Rattle.vm_state.specs.declared.elements.Elements.{Elements}
use Rattle.vm_state.specs.declared.elements.Elements.TheVariants.{Few, Briefs, Bytes, Chars, Shorts, Ints, Longs}
use Rattle.vm_state.specs.declared.elements.Elements.TheVariants.{Values}

abbrev pub char_value : ℕ → Value
char_value n = Int (pos n)

abbrev pub brief_value : Brief → Value
brief_value (brief.Int n) = Int n
brief_value brief.Null = Null
brief_value (brief.Text s) = Text s
brief_value (brief.OfClass c n) = OfClass c n
brief_value (brief.OfThread t n) = OfThread t n
brief_value brief.Out = Out

abbrev pub values_of : Elements → List Value
values_of (Few v a) = map brief_value v
values_of (Briefs v) = map brief_value v.items
values_of (Bytes v) = map Int v.items
values_of (Chars v) = map char_value v.items
values_of (Shorts v) = map Int v.items
values_of (Ints v) = map Int v.items
values_of (Longs v) = map Long v.items
values_of (Values v) = v.items
