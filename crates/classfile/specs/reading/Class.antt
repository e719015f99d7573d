-- Reading a class file.
use Rattle.std.specs.Prelude.{ℕ, Bool, ◌&&◌, List, length, Result, Ok, Err, ◌==◌, if◌then◌else◌}
use Rattle.std.specs.Int.{w16, w32}
use Rattle.classfile.specs.declared.fault.ClassFault.{ClassFault}
use Rattle.classfile.specs.declared.fault.ClassFault.TheVariants as faults
use Rattle.classfile.specs.declared.constant.Constant.{Constant}
use Rattle.classfile.specs.declared.header.Header.{Header}
use Rattle.classfile.specs.declared.member.Member.{Member}
use Rattle.classfile.specs.declared.attribute.Attribute.{Attribute}
use Rattle.classfile.specs.declared.attribute.Owner.TheVariants as owners
use Rattle.classfile.specs.declared.member.MemberKind.TheVariants as kinds
use Rattle.classfile.specs.ClassFile.{ClassFile}
use Rattle.classfile.specs.reading.Numbers.{◌>>=◌, number_at}
use Rattle.classfile.specs.reading.LookupTests.{is_class, is_class_or_none, is_plain_class}
use Rattle.classfile.specs.reading.Repeat.{table_at}
use Rattle.classfile.specs.reading.Code.{index_at, ends_at}
use Rattle.classfile.specs.reading.Pool.{pool_at}
use Rattle.classfile.specs.reading.Members.{attributes_at, members_at}

abbrev pub class_file_of : List Constant → Header → List Member → List Member → List Attribute → ClassFile
class_file_of constants header fields methods attributes = record {
  constants = constants;
  access_flags = header.access_flags;
  this_class = header.this_class;
  super_class = header.super_class;
  interfaces = header.interfaces;
  fields = fields;
  methods = methods;
  attributes = attributes;
}

abbrev pub this_class_at : List Constant → ℕ → List ℕ → Result (ℕ × List ℕ) ClassFault
this_class_at pool total bytes = index_at (is_plain_class pool) total bytes

abbrev pub super_class_at : List Constant → ℕ → List ℕ → Result (ℕ × List ℕ) ClassFault
super_class_at pool total bytes = index_at (is_class_or_none pool) total bytes

abbrev pub interface_at : List Constant → ℕ → List ℕ → Result (ℕ × List ℕ) ClassFault
interface_at pool total bytes = index_at (is_class pool) total bytes

unfoldable pub interfaces_at : List Constant → ℕ → List ℕ → Result (List ℕ × List ℕ) ClassFault
interfaces_at pool total bytes = table_at (λ earlier. interface_at pool total) total bytes

-- the class's own Class, and its superclass's or 0
unfoldable pub class_indices_at : List Constant → ℕ → List ℕ → Result ((ℕ × ℕ) × List ℕ) ClassFault
class_indices_at pool total bytes = do
  this ← this_class_at pool total bytes
  super ← super_class_at pool total this.1
  Ok ((this.0, super.0), super.1)

abbrev pub header_of : ℕ → ℕ → ℕ → List ℕ → Header
header_of flags this super interfaces = record {
  access_flags = flags;
  this_class = this;
  super_class = super;
  interfaces = interfaces;
}

unfoldable pub header_at : List Constant → ℕ → List ℕ → Result (Header × List ℕ) ClassFault
header_at pool total bytes = do
  flags ← number_at w16 total bytes
  this ← this_class_at pool total flags.1
  super ← super_class_at pool total this.1
  interfaces ← interfaces_at pool total super.1
  Ok (header_of flags.0 this.0 super.0 interfaces.0, interfaces.1)

unfoldable pub magic_at : ℕ → List ℕ → Result (ℕ × List ℕ) ClassFault
magic_at total bytes = number_at w32 total bytes >>= λ magic. if magic.0 == 3405691582 then Ok magic else Err
    faults.Magic

abbrev pub pair_at : ℕ → List ℕ → Result ((ℕ × ℕ) × List ℕ) ClassFault
pair_at total bytes = number_at w16 total bytes >>= λ first. number_at w16 total first.1 >>= λ second.
    Ok ((first.0, second.0), second.1)

abbrev pub is_version : ℕ × ℕ → Bool
is_version v = v.0 == 0 && v.1 == 52

-- the minor version and the major one
unfoldable pub version_at : ℕ → List ℕ → Result ((ℕ × ℕ) × List ℕ) ClassFault
version_at total bytes = pair_at total bytes >>= λ v. if is_version v.0 then Ok v else Err (faults.Version v.0.1 v.0.0)

-- the methods and the class's own attributes, after the fields
abbrev pub methods_and_attributes_at : List Constant → ℕ → List ℕ
    → Result ((List Member × List Attribute) × List ℕ) ClassFault
methods_and_attributes_at pool total bytes = do
  methods ← members_at kinds.Method pool total bytes
  attributes ← attributes_at pool owners.Class total methods.1
  Ok ((methods.0, attributes.0), attributes.1)

unfoldable pub tables_at : List Constant → ℕ → List ℕ
    → Result ((List Member × (List Member × List Attribute)) × List ℕ) ClassFault
tables_at pool total bytes = do
  fields ← members_at kinds.Field pool total bytes
  others ← methods_and_attributes_at pool total fields.1
  Ok ((fields.0, others.0), others.1)

-- the fields, the methods and the class's own attributes
unfoldable pub class_body_at : List Constant → Header → ℕ → List ℕ → Result (ClassFile × List ℕ) ClassFault
class_body_at pool header total bytes = do
  fields ← members_at kinds.Field pool total bytes
  methods ← members_at kinds.Method pool total fields.1
  attributes ← attributes_at pool owners.Class total methods.1
  Ok (class_file_of pool header fields.0 methods.0 attributes.0, attributes.1)

-- the constant pool, and what is after it
unfoldable pub contents_at : ℕ → List ℕ → Result (ClassFile × List ℕ) ClassFault
contents_at total bytes = do
  pool ← pool_at total bytes
  header ← header_at pool.0 total pool.1
  class_body_at pool.0 header.0 total header.1

unfoldable pub class_at : ℕ → List ℕ → Result (ClassFile × List ℕ) ClassFault
class_at total bytes = do
  magic ← magic_at total bytes
  version ← version_at total magic.1
  pool ← pool_at total version.1
  header ← header_at pool.0 total pool.1
  class_body_at pool.0 header.0 total header.1

-- a class file and nothing after it
unfoldable pub class_of : List ℕ → Result ClassFile ClassFault
class_of bytes = class_at (length bytes) bytes >>= λ class. ends_at (length bytes) class
