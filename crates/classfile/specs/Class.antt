-- What a class file has to be (JVMS 4.1), and the bytes that are one.
use Rattle.std.specs.Prelude.{◌≡◌, ◌≢◌, ℕ, ◌<◌, ◌^◌, ◌⊎◌, List, ◌∷◌, length}
use Rattle.std.specs.List.{All, AllPairs}
use Rattle.classfile.specs.ClassFile.{ClassFile}
use Rattle.classfile.specs.Pool.{IsIndexOf, IsClass, IsClassNamed, IsPool}
use Rattle.classfile.specs.Members.{IsField, IsMethod, IsClassAttribute, Differ}
use Rattle.classfile.specs.Text.{class_text}

-- a name that doesn't begin as an array's descriptor does
abbrev pub IsNoArray : List ℕ → Type 0
IsNoArray name = (rest : List ℕ) → name ≢ 91 ∷ rest

-- JVMS 4.1
pub record IsClassFile (class : ClassFile) : Type 0 where
  pub constants : IsPool class.constants
  pub access_flags : class.access_flags < 2 ^ 16
  pub this_class : IsIndexOf (IsClassNamed IsNoArray class.constants) class.constants class.this_class
  pub super_class : (class.super_class ≡ 0) ⊎ IsIndexOf IsClass class.constants class.super_class
  pub interface_count : length class.interfaces < 2 ^ 16
  pub interfaces : All (IsIndexOf IsClass class.constants) class.interfaces
  pub field_count : length class.fields < 2 ^ 16
  pub fields : All (IsField class.constants) class.fields
  pub distinct_fields : AllPairs (Differ class.constants) class.fields
  pub method_count : length class.methods < 2 ^ 16
  pub methods : All (IsMethod class.constants) class.methods
  pub distinct_methods : AllPairs (Differ class.constants) class.methods
  pub attribute_count : length class.attributes < 2 ^ 16
  pub attributes : All (IsClassAttribute class.constants) class.attributes

-- The bytes are the text of a class file.
pub record IsClassText (bytes : List ℕ) (class : ClassFile) : Type 0 where
  pub spelled : bytes ≡ class_text class
  pub fits : IsClassFile class
