-- Reading code, as a definition, never runs out of memory.
use Rattle.std.proofs.Common.{◌≡◌, ℕ, zero, suc, Bool, true, false, cond, ltb, List, [], ◌∷◌, ◌++◌, length, take, drop}
use Rattle.std.proofs.Common.{Result, Ok, Err}
use Rattle.std.proofs.Common.{refl}
use Rattle.std.specs.Int.{Width, w16, w32, byte_len, from_be_bytes}
use Rattle.classfile.specs.declared.fault.ClassFault.{ClassFault}
use Rattle.classfile.specs.declared.fault.ClassFault.TheVariants as faults
use Rattle.classfile.specs.declared.constant.Constant.{Constant}
use Rattle.classfile.specs.reading.Numbers.{◌>>=◌, number_at, run_at}
use Rattle.classfile.specs.Gives.{offset}
use Rattle.classfile.specs.reading.LookupTests.{has_utf8}
use Rattle.classfile.specs.reading.Repeat.{repeat_at, table_at}
use Rattle.classfile.specs.reading.Code.{index_at, utf8_index_at, framed_at, unread_at, unread_attributes_at}
use Rattle.classfile.specs.reading.Code.{is_handler, handler_numbers_at}
use Rattle.classfile.specs.reading.Code.{handler_at, exceptions_at, is_code_length, code_length_at, code_bytes_at}
use Rattle.classfile.specs.reading.Code.{code_at, ends_at, whole_code}

abbrev Never : {X : Type 0} → Result X ClassFault → Type 0
Never r = r ≡ Err faults.Memory → ⊥

then_never : {A B : Type 0} (r : Result A ClassFault) (go : A → Result B ClassFault) → Never r
    → ((a : A) → Never (go a)) → Never (r >>= go)
then_never (Ok a) go one two = two a
then_never (Err g) go one two = λ e. one (let q : g ≡ faults.Memory = cc in rw q refl)

made_never : {A B : Type 0} (r : Result A ClassFault) (make : A → B) → Never r → Never (r >>= λ a. Ok (make a))
made_never r make one = then_never r (λ a. Ok (make a)) one (λ a e. cc)

cut_never : {A : Type 0} (short : Bool) (at : ℕ) (x : A) → Never (cond short (Err (faults.Truncated at)) (Ok x))
cut_never true at x e = cc
cut_never false at x e = cc

tested_never : {A : Type 0} (good : Bool) (at : ℕ) (x : A) → Never (cond good (Ok x) (Err (faults.Index at)))
tested_never true at x e = cc
tested_never false at x e = cc

number_never : (w : Width) (total : ℕ) (bytes : List ℕ) → Never (number_at w total bytes)
number_never w total bytes = cut_never (ltb (length bytes) (byte_len w)) (offset total bytes)
    (from_be_bytes w (take (byte_len w) bytes), drop (byte_len w) bytes)

run_never : (count total : ℕ) (bytes : List ℕ) → Never (run_at count total bytes)
run_never count total bytes =
    cut_never (ltb (length bytes) count) (offset total bytes) (take count bytes, drop count bytes)

index_never : (test : ℕ → Bool) (total : ℕ) (bytes : List ℕ) → Never (index_at test total bytes)
index_never test total bytes = then_never (number_at w16 total bytes) _ (number_never w16 total bytes)
    (λ index. tested_never (test index.0) (offset total bytes) index)

frame_never : (pool : List Constant) (total : ℕ) (bytes : List ℕ) → Never (framed_at pool total bytes)
unfolding framed_at
frame_never pool total bytes =
    then_never (utf8_index_at pool total bytes) _ (index_never (has_utf8 pool) total bytes) (λ name.
    then_never (number_at w32 total name.1) _ (number_never w32 total name.1) (λ count.
    made_never (run_at count.0 total count.1) _ (run_never count.0 total count.1)))

repeat_never : {X : Type 0} (read : List X → List ℕ → Result (X × List ℕ) ClassFault)
    → ((items : List X) (bytes : List ℕ)
    → Never (read items bytes)) → (n : ℕ) (items : List X) (bytes : List ℕ) → Never (repeat_at read n items bytes)
unfolding repeat_at
repeat_never read one zero items bytes = λ e. cc
repeat_never read one (suc n) items bytes =
    then_never (read items bytes) _ (one items bytes) (λ x. repeat_never read one n (items ++ x.0 ∷ []) x.1)

table_never : {X : Type 0} (read : List X → List ℕ → Result (X × List ℕ) ClassFault)
    → ((items : List X) (bytes : List ℕ) → Never (read items bytes)) → (total : ℕ) (bytes : List ℕ)
    → Never (table_at read total bytes)
table_never read one total bytes = then_never (number_at w16 total bytes) _ (number_never w16 total bytes)
    (λ count. repeat_never read one count.0 [] count.1)

unread_never : (pool : List Constant) (total : ℕ) (bytes : List ℕ) → Never (unread_at pool total bytes)
unfolding unread_at
unread_never pool total bytes = made_never (framed_at pool total bytes) _ (frame_never pool total bytes)

handler_never : (pool : List Constant) (n total : ℕ) (bytes : List ℕ) → Never (handler_at pool n total bytes)
unfolding handler_at handler_numbers_at
handler_never pool n total bytes =
    then_never (handler_numbers_at total bytes) _
    (then_never (number_at w16 total bytes) _ (number_never w16 total bytes) (λ start.
    then_never (number_at w16 total start.1) _ (number_never w16 total start.1) (λ end'.
    then_never (number_at w16 total end'.1) _ (number_never w16 total end'.1) (λ handler.
    made_never (number_at w16 total handler.1) _ (number_never w16 total handler.1)))))
    (λ h. tested_never (is_handler pool n h.0) (offset total bytes) h)

code_bytes_never : (total : ℕ) (bytes : List ℕ) → Never (code_bytes_at total bytes)
unfolding code_bytes_at code_length_at
code_bytes_never total bytes =
    then_never (code_length_at total bytes) _
    (then_never (number_at w32 total bytes) _ (number_never w32 total bytes)
    (λ n. tested_never (is_code_length n.0) (offset total bytes) n))
    (λ n. run_never n.0 total n.1)

code_never : (pool : List Constant) (total : ℕ) (bytes : List ℕ) → Never (code_at pool total bytes)
unfolding code_at exceptions_at unread_attributes_at
code_never pool total bytes =
    then_never (number_at w16 total bytes) _ (number_never w16 total bytes) (λ max_stack.
    then_never (number_at w16 total max_stack.1) _ (number_never w16 total max_stack.1) (λ max_locals.
    then_never (code_bytes_at total max_locals.1) _ (code_bytes_never total max_locals.1) (λ code.
    then_never (exceptions_at pool (length code.0) total code.1) _
    (table_never (λ earlier. handler_at pool (length code.0) total)
    (λ earlier. handler_never pool (length code.0) total) total code.1)
    (λ exceptions.
    made_never (unread_attributes_at pool total exceptions.1) _
    (table_never (λ earlier. unread_at pool total) (λ earlier. unread_never pool total) total exceptions.1)))))

ends_never : {X : Type 0} (total : ℕ) (p : X × List ℕ) → Never (ends_at total p)
ends_never total (x, []) e = cc
ends_never total (x, (b ∷ bs)) e = cc

pub whole_code_never : (pool : List Constant) (bytes : List ℕ) → whole_code pool bytes ≡ Err faults.Memory → ⊥
unfolding whole_code
whole_code_never pool bytes = then_never (code_at pool (length bytes) bytes) (λ code. ends_at (length bytes) code)
    (code_never pool (length bytes) bytes) (λ code. ends_never (length bytes) code)
