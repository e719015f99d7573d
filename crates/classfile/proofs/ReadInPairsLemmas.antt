-- Reading two parts one after the other, as one step.
use Rattle.std.proofs.Common.{◌≡◌, ℕ, List, length, Result, Ok, Err, refl}
use Rattle.std.specs.Prelude.{if◌then◌else◌}
use Rattle.std.specs.Int.{w16}
use Rattle.classfile.specs.declared.fault.ClassFault.{ClassFault}
use Rattle.classfile.specs.declared.fault.ClassFault.TheVariants as faults
use Rattle.classfile.specs.declared.constant.Constant.{Constant}
use Rattle.classfile.specs.declared.member.Member.{Member}
use Rattle.classfile.specs.declared.member.MemberKind.{MemberKind}
use Rattle.classfile.specs.reading.Numbers.{◌>>=◌, number_at}
use Rattle.classfile.specs.Gives.{offset}
use Rattle.classfile.specs.declared.code.Code.{Code}
use Rattle.classfile.specs.reading.Code.{utf8_index_at, code_of, code_bytes_at, exceptions_at, unread_attributes_at}
use Rattle.classfile.specs.reading.Code.{code_tables_at, limited_code_at}
use Rattle.classfile.specs.reading.Members.{descriptor_at, name_and_descriptor_at, is_declared, member_body_at}
use Rattle.classfile.specs.reading.Members.{member_at}

then_pair : {A B C : Type 0} (first : Result (A × List ℕ) ClassFault) (second : List ℕ → Result (B × List ℕ) ClassFault)
    (next : (A × B) × List ℕ → Result C ClassFault)
    → (first >>= λ a. second a.1 >>= λ b. next ((a.0, b.0), b.1))
    ≡ ((first >>= λ a. second a.1 >>= λ b. Ok ((a.0, b.0), b.1)) >>= next)
then_pair (Err e) second next = refl
then_pair {A} {B} {C} (Ok a) second next = then_one (second a.1)
  where
    then_one : (read : Result (B × List ℕ) ClassFault) → (read >>= λ b. next ((a.0, b.0), b.1))
        ≡ ((read >>= λ b. Ok ((a.0, b.0), b.1)) >>= next)
    then_one (Err e) = refl
    then_one (Ok b) = refl

same_then : {A B : Type 0} (read : Result A ClassFault) (f g : A → Result B ClassFault) → ((a : A) → f a ≡ g a)
    → (read >>= f) ≡ (read >>= g)
same_then (Err e) f g same = refl
same_then (Ok a) f g same = same a

-- what is after the name and the descriptor of a member that begins at an offset
abbrev pub signed_at : MemberKind → List Constant → ℕ → ℕ → List Member → ℕ → (ℕ × ℕ) × List ℕ
    → Result (Member × List ℕ) ClassFault
signed_at kind pool total at earlier flags s =
    if is_declared pool s.0.0 s.0.1 earlier then Err (faults.Index at) else member_body_at kind pool total at flags
    s.0.0 s.0.1 s.1

pub member_in_parts : (kind : MemberKind) (pool : List Constant) (total : ℕ) (earlier : List Member) (bytes : List ℕ)
    → member_at kind pool total earlier bytes
    ≡ (number_at w16 total bytes >>= λ flags. name_and_descriptor_at kind pool total flags.1 >>= signed_at kind pool
    total (offset total bytes) earlier flags.0)
unfolding member_at name_and_descriptor_at
member_in_parts kind pool total earlier bytes = same_then (number_at w16 total bytes) _ _ (λ flags.
    then_pair (utf8_index_at pool total flags.1) (descriptor_at kind pool total)
    (signed_at kind pool total (offset total bytes) earlier flags.0))

pub code_in_parts : (pool : List Constant) (max_stack max_locals total : ℕ) (bytes : List ℕ)
    → limited_code_at pool max_stack max_locals total bytes
    ≡ ◌>>=◌ {B = Code × List ℕ} (code_bytes_at total bytes) (λ code. code_tables_at pool (length code.0) total code.1
    >>= λ tables. Ok (code_of max_stack max_locals code.0 tables.0.0 tables.0.1, tables.1))
unfolding limited_code_at code_tables_at
code_in_parts pool max_stack max_locals total bytes = same_then (code_bytes_at total bytes) _ _ (λ code.
    then_pair (exceptions_at pool (length code.0) total code.1) (unread_attributes_at pool total)
    (λ tables. Ok (code_of max_stack max_locals code.0 tables.0.0 tables.0.1, tables.1)))
