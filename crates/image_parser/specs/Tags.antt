-- The tags of values.
use Rattle.std.specs.Prelude.{ℕ, Bool, true, false, Option, Some, None, ◌==◌, if◌then◌else◌}
use Rattle.program.specs.declared.runtime_constant.FieldKind.{FieldKind}
use Rattle.program.specs.declared.runtime_constant.FieldKind.TheVariants as kinds
use Rattle.image_parser.specs.declared.tag.Tag.{Tag}
use Rattle.image_parser.specs.declared.tag.Tag.TheVariants as tags

-- the tag that a number is
unfoldable pub tag_of : ℕ → Option Tag
tag_of n =
    if n == 0 then Some tags.Null else
    (if n == 1 then Some tags.Int else
    (if n == 2 then Some tags.Long else
    (if n == 3 then Some tags.Text else
    (if n == 4 then Some tags.Object else
    (if n == 5 then Some tags.Out else None)))))

abbrev pub is_int : Tag → Bool
is_int tags.Int = true
is_int _ = false

abbrev pub is_long : Tag → Bool
is_long tags.Long = true
is_long _ = false

abbrev pub is_reference : Tag → Bool
is_reference tags.Int = false
is_reference tags.Long = false
is_reference _ = true

-- whether values of a kind have such a tag
unfoldable pub may_have : FieldKind → Tag → Bool
may_have kinds.Long tag = is_long tag
may_have kinds.Reference tag = is_reference tag
may_have kinds.Float tag = false
may_have kinds.Double tag = false
may_have _ tag = is_int tag
