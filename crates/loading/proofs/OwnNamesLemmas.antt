-- The class's own name is no array's (JVMS 4.1, this_class).
use Rattle.std.proofs.Common.{ℕ, List, [], Option, Some, None, slice_get, unwrap_or}
use Rattle.std.specs.Option.{IsSomeAnd}
use Rattle.classfile.specs.ClassFile.{ClassFile}
use Rattle.classfile.specs.Class.{IsClassFile, IsNoArray}
use Rattle.classfile.specs.Lookup.{utf8_in, utf8_of, class_name_in, class_name_of}
use Rattle.classfile.specs.Pool.{IsUtf8Where, IsClassNamed}
use Rattle.classfile.specs.declared.constant.Constant.{Constant}
use Rattle.classfile.specs.declared.constant.Constant.TheVariants as constants
use Rattle.loading.specs.Names.{name_of}

text_is : (P : List ℕ → Type 0) (o : Option Constant) → IsSomeAnd o (IsUtf8Where P) → P (unwrap_or (utf8_in o) [])
text_is P None h = absurd h
text_is P (Some (constants.Utf8 text)) h = h
text_is P (Some _) h = absurd h

name_is : (P : List ℕ → Type 0) (pool : List Constant) (o : Option Constant) → IsSomeAnd o (IsClassNamed P pool)
    → P (unwrap_or (class_name_in pool o) [])
unfolding utf8_of
name_is P pool None h = absurd h
name_is P pool (Some (constants.Class name)) h = text_is P (slice_get pool name) h
name_is P pool (Some _) h = absurd h

pub own_name : (f : ClassFile) → IsClassFile f → IsNoArray (name_of f)
unfolding class_name_of
own_name f fits = name_is IsNoArray f.constants (slice_get f.constants f.this_class) fits.this_class
