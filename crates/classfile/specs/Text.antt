-- The text of a class file: a function of what it holds (JVMS 4.1).
use Rattle.std.specs.Prelude.{ℕ, List, ◌++◌, length}
use Rattle.std.specs.List.{flat_map}
use Rattle.classfile.specs.declared.unread.UnreadAttribute.{UnreadAttribute}
use Rattle.classfile.specs.declared.exceptions.ExceptionHandler.{ExceptionHandler}
use Rattle.classfile.specs.declared.code.Code.{Code}
use Rattle.classfile.specs.declared.attribute.Attribute.{Attribute}
use Rattle.classfile.specs.declared.attribute.Attribute.TheVariants as attributes
use Rattle.classfile.specs.declared.member.Member.{Member}
use Rattle.classfile.specs.Spelling.{u2, u4, constant_text}
use Rattle.classfile.specs.ClassFile.{ClassFile}

-- a count of 16 bits, and the items
abbrev pub table_text : {X : Type 0} → (X → List ℕ) → List X → List ℕ
table_text text items = u2 (length items) ++ flat_map text items

-- the name of an attribute, the length of its content, and its content (JVMS 4.7)
abbrev pub framed_text : ℕ → List ℕ → List ℕ
framed_text name content = u2 name ++ (u4 (length content) ++ content)

abbrev pub unread_text : UnreadAttribute → List ℕ
unread_text attribute = framed_text attribute.name attribute.bytes

abbrev pub handler_text : ExceptionHandler → List ℕ
handler_text handler = u2 handler.start_pc ++ (u2 handler.end_pc ++ (u2 handler.handler_pc ++ u2 handler.catch_type))

-- JVMS 4.7.3
abbrev pub code_text : Code → List ℕ
code_text code = u2 code.max_stack ++ (u2 code.max_locals ++ ((u4 (length code.code) ++ code.code)
    ++ (table_text handler_text code.exceptions ++ table_text unread_text code.attributes)))

abbrev pub attribute_text : Attribute → List ℕ
attribute_text (attributes.ConstantValue name value) = framed_text name (u2 value)
attribute_text (attributes.Code name code) = framed_text name (code_text code)
attribute_text (attributes.Unread attribute) = unread_text attribute

-- JVMS 4.5, 4.6
abbrev pub member_text : Member → List ℕ
member_text member =
    u2 member.access_flags ++ (u2 member.name ++ (u2 member.descriptor ++ table_text attribute_text member.attributes))

-- The whole file: CAFEBABE, version 52.0, and its tables in order.
abbrev pub class_text : ClassFile → List ℕ
class_text class = u4 3405691582 ++ ((u2 0 ++ u2 52) ++ (table_text constant_text class.constants
    ++ ((u2 class.access_flags ++ (u2 class.this_class ++ (u2 class.super_class ++ table_text u2 class.interfaces)))
    ++ (table_text member_text class.fields
    ++ (table_text member_text class.methods ++ table_text attribute_text class.attributes)))))
