-- The readers of indices, of attributes' frames and of Code are lawful.
use Rattle.std.proofs.Common.{◌≡◌, ℕ, ◌<◌, ◌^◌, Bool, ◌&&◌, ltb, leb, List, ◌++◌, length, Ok, refl, sym, ap, subst, ◌∙◌}
use Rattle.std.proofs.Common.{arith, inl, inr}
use Rattle.std.specs.Bool.{Decides}
use Rattle.std.specs.Int.{w16, w32}
use Rattle.std.proofs.lemmas.Bool.{ltb-true, leb-true, lt-ltb, le-leb, and_parts, and_from}
use Rattle.classfile.specs.declared.fault.ClassFault.{ClassFault}
use Rattle.classfile.specs.declared.fault.ClassFault.TheVariants as faults
use Rattle.classfile.specs.declared.constant.Constant.{Constant}
use Rattle.classfile.specs.declared.unread.UnreadAttribute.{UnreadAttribute}
use Rattle.classfile.specs.declared.exceptions.ExceptionHandler.{ExceptionHandler}
use Rattle.classfile.specs.declared.code.Code.{Code}
use Rattle.classfile.specs.reading.Numbers.{◌>>=◌, number_at, run_at}
use Rattle.classfile.specs.Gives.{offset}
use Rattle.classfile.specs.Faults.{Either, Number, Run, Cut, CutNumber, IsBytes}
use Rattle.classfile.specs.reading.LookupTests.{has_utf8, is_class_or_none}
use Rattle.classfile.specs.reading.Code.{index_at, utf8_index_at, framed_at, unread_of, unread_at, unread_attributes_at}
use Rattle.classfile.specs.reading.Code.{handler_of, is_handler}
use Rattle.classfile.specs.reading.Code.{handler_numbers_at, handler_at, exceptions_at, is_code_length, code_length_at}
use Rattle.classfile.specs.reading.Code.{code_bytes_at, code_of}
use Rattle.classfile.specs.reading.Code.{code_at, whole_code}
use Rattle.classfile.specs.Spelling.{u2, u4}
use Rattle.classfile.specs.Text.{table_text, framed_text, unread_text, handler_text, code_text}
use Rattle.classfile.specs.Pool.{IsIndexOf, IsUtf8, IsClass}
use Rattle.classfile.specs.Members.{IsUnread, IsHandler, IsCode}
use Rattle.classfile.specs.FirstFault.{Ruled, RuleFails, IsItem, IsTableText, TableFails, IndexOf, IndexFails}
use Rattle.classfile.specs.FirstFault.{IsSuperClass, IsFrame}
use Rattle.classfile.specs.FirstFault.{FrameFails, Anything}
use Rattle.classfile.proofs.Lawful.{Lawful, Both, Mapped, wide16, wide32, number_lawful, run_lawful, map_lawful}
use Rattle.classfile.proofs.RuleLawful.{append_equal, ruled_lawful, whole_takes, whole_again}
use Rattle.classfile.proofs.Lawful.{restated, then_lawful}
use Rattle.classfile.proofs.TableLawful.{table_lawful}
use Rattle.classfile.proofs.LookupTestsLemmas.{utf8_decides, class_or_none_decides, within}

-- ---- indices

pub index_lawful : (test : ℕ → Bool) (Rule : ℕ → Type 0) (total : ℕ) → ((index : ℕ) → Decides (test index) (Rule index))
    → Lawful (index_at test total) (IndexOf Rule) (IndexFails Rule total)
index_lawful test Rule total decides =
    ruled_lawful (number_at w16 total) test Rule (λ bytes index. faults.Index (offset total bytes))
    decides (number_lawful w16 wide16 total)

pub utf8_index_lawful : (pool : List Constant) (total : ℕ)
    → Lawful (utf8_index_at pool total) (IndexOf (IsIndexOf IsUtf8 pool))
    (IndexFails (IsIndexOf IsUtf8 pool) total)
utf8_index_lawful pool total = index_lawful (has_utf8 pool) (IsIndexOf IsUtf8 pool) total (utf8_decides pool)

-- ---- attributes' frames

abbrev FrameParts : List Constant → ℕ × List ℕ → List ℕ → Type 0
FrameParts pool = Both (IndexOf (IsIndexOf IsUtf8 pool))
    (λ name. Both (Number w32) (λ count. Mapped (λ content. (name, content)) (Run count)))

frame_is : (pool : List Constant) (frame : ℕ × List ℕ) (text : List ℕ) → FrameParts pool frame text
    → IsFrame pool frame text
frame_is pool frame text s =
    let content = s.second.second.value in
    let count-is : length content ≡ s.second.value = s.second.second.spelled.0 in
    let number-is : u4 s.second.value ≡ u4 (length content) = ap (λ (n : ℕ). u4 n) (sym count-is) in
    let back-is = s.second.parts ∙ append_equal s.second.front (u4 (length content)) s.second.back content
    (s.second.first.1
    ∙ number-is) s.second.second.spelled.1 in
    let text-is : text ≡ framed_text s.value content = s.parts
    ∙ append_equal s.front (u2 s.value) s.back (u4 (length content) ++ content) s.first.0.1 back-is in
    let it : IsFrame pool (s.value, content) text = record {
      index = s.first.0.0;
      name = s.first.1;
      size = rw count-is s.second.first.0;
      spelled = text-is;
    } in
    let P : ℕ × List ℕ → Type 0 = λ z. IsFrame pool z text in subst P (sym s.second.second.is) it

frame_again : (pool : List Constant) (frame : ℕ × List ℕ) (text : List ℕ) → IsFrame pool frame text
    → FrameParts pool frame text
frame_again pool frame text f = record {
  value = frame.0;
  front = u2 frame.0;
  back = u4 (length frame.1) ++ frame.1;
  first = ((f.index, refl), f.name);
  second = record {
    value = length frame.1;
    front = u4 (length frame.1);
    back = frame.1;
    first = (f.size, refl);
    second =
        record { value = frame.1; spelled = (refl, refl); is = refl };
    parts = refl;
  };
  parts = f.spelled;
}

pub frame_lawful : (pool : List Constant) (total : ℕ)
    → Lawful (framed_at pool total) (IsFrame pool) (FrameFails pool total)
unfolding framed_at
frame_lawful pool total =
    restated
    (then_lawful (utf8_index_at pool total)
    (λ bytes name. number_at w32 total name.1 >>= λ count. run_at count.0 total count.1 >>=
    λ content. Ok ((name.0, content.0), content.1)) (utf8_index_lawful pool total)
    (λ bytes name front s. then_lawful (number_at w32 total)
    (λ bytes count. run_at count.0 total count.1 >>= λ content. Ok
    ((name, content.0), content.1)) (number_lawful w32 wide32 total)
    (λ bytes count front s. map_lawful (λ content. (name, content)) (run_at count total) (Run count) _
    (run_lawful count total))))
    (frame_is pool) (frame_again pool)

-- ---- unread attributes

abbrev IsUnreadText : List Constant → List UnreadAttribute → UnreadAttribute → List ℕ → Type 0
IsUnreadText pool = IsItem unread_text (IsUnread pool) Anything

pub unread_is : (pool : List Constant) (frame : ℕ × List ℕ) (text : List ℕ) → IsFrame pool frame text
    → IsUnread pool (unread_of frame.0 frame.1)
unread_is pool frame text f = record { name = f.name; size = f.size }

pub frame_of_unread : (pool : List Constant) (attribute : UnreadAttribute) → length pool < 2 ^ 16
    → IsUnread pool attribute
    → IsFrame pool (attribute.name, attribute.bytes) (unread_text attribute)
frame_of_unread pool attribute small fits =
    record {
      index = (let lt = within IsUtf8 pool attribute.name fits.name in omega (arith, lt, small));
      name = fits.name;
      size = fits.size;
      spelled = refl;
    }

abbrev unread_from : ℕ × List ℕ → UnreadAttribute
unread_from frame = unread_of frame.0 frame.1

unread_text_is : (pool : List Constant) (earlier : List UnreadAttribute) (attribute : UnreadAttribute) (text : List ℕ)
    → Mapped unread_from (IsFrame pool) attribute text → IsUnreadText pool earlier attribute text
unread_text_is pool earlier attribute text s =
    let it : IsUnreadText pool earlier (unread_from s.value) text = record {
      fits = unread_is pool s.value text s.spelled;
      pairs =
          λ k d lt. tt;
      spelled = s.spelled.spelled;
    } in
    let P : UnreadAttribute → Type 0 = λ z. IsUnreadText pool earlier z text in subst P (sym s.is) it

unread_text_again : (pool : List Constant) (earlier : List UnreadAttribute) → length pool < 2 ^ 16
    → (attribute : UnreadAttribute) (text : List ℕ) → IsUnreadText pool earlier attribute text
    → Mapped unread_from (IsFrame pool) attribute text
unread_text_again pool earlier small attribute text s =
    let P : List ℕ → Type 0 = λ z. IsFrame pool (attribute.name, attribute.bytes) z in
    record {
      value = (attribute.name, attribute.bytes);
      spelled = subst P (sym s.spelled) (frame_of_unread pool attribute small s.fits);
      is = refl;
    }

unread_lawful : (pool : List Constant) → length pool < 2 ^ 16 → (total : ℕ) (earlier : List UnreadAttribute)
    → Lawful (unread_at pool total) (IsUnreadText pool earlier) (FrameFails pool total)
unfolding unread_at
unread_lawful pool small total earlier =
    restated (map_lawful unread_from (framed_at pool total) (IsFrame pool) (FrameFails pool total)
    (frame_lawful pool total)) (unread_text_is pool earlier) (unread_text_again pool earlier small)

abbrev UnreadTable : List Constant → List UnreadAttribute → List ℕ → Type 0
UnreadTable pool = IsTableText unread_text (IsUnread pool) Anything

unread_table_lawful : (pool : List Constant) → length pool < 2 ^ 16 → (total : ℕ)
    → Lawful (unread_attributes_at pool total) (UnreadTable pool)
    (TableFails (IsUnreadText pool) (λ earlier. FrameFails pool total) total)
unfolding unread_attributes_at
unread_table_lawful pool small total =
    table_lawful unread_text (IsUnread pool) Anything (λ earlier. FrameFails pool total)
    (λ earlier. unread_at pool total) total
    (unread_lawful pool small total)

-- ---- exception tables

record IsNumbers (handler : ExceptionHandler) (text : List ℕ) : Type 0 where
  start : handler.start_pc < 2 ^ 16
  end' : handler.end_pc < 2 ^ 16
  target : handler.handler_pc < 2 ^ 16
  type : handler.catch_type < 2 ^ 16
  spelled : text ≡ handler_text handler

abbrev HandlerParts : ExceptionHandler → List ℕ → Type 0
HandlerParts = Both (Number w16)
    (λ start. Both (Number w16)
    (λ end'. Both (Number w16) (λ handler. Mapped (λ catch. handler_of start end' handler catch) (Number w16))))

numbers_are : (handler : ExceptionHandler) (text : List ℕ) → HandlerParts handler text → IsNumbers handler text
numbers_are handler text s =
    let end' = s.second in
    let target = end'.second in
    let catch = target.second in
    let two = target.parts ∙ append_equal target.front (u2 target.value) target.back (u2 catch.value) target.first.1
    catch.spelled.1 in
    let three = end'.parts ∙ append_equal end'.front (u2 end'.value) end'.back (u2 target.value ++ u2 catch.value)
    end'.first.1 two in
    let four = s.parts ∙ append_equal s.front (u2 s.value) s.back (u2 end'.value ++ (u2 target.value ++ u2 catch.value))
    s.first.1 three in
    let it : IsNumbers (handler_of s.value end'.value target.value catch.value) text = record {
      start = s.first.0;
      end' = end'.first.0;
      target = target.first.0;
      type = catch.spelled.0;
      spelled = four;
    } in
    let P : ExceptionHandler → Type 0 = λ z. IsNumbers z text in subst P (sym catch.is) it

numbers_again : (handler : ExceptionHandler) (text : List ℕ) → IsNumbers handler text → HandlerParts handler text
numbers_again handler text n = record {
  value = handler.start_pc;
  front = u2 handler.start_pc;
  back = u2 handler.end_pc ++ (u2 handler.handler_pc ++ u2 handler.catch_type);
  first = (n.start, refl);
  second = record {
    value = handler.end_pc;
    front = u2 handler.end_pc;
    back = u2 handler.handler_pc ++ u2 handler.catch_type;
    first = (n.end', refl);
    second = record {
      value = handler.handler_pc;
      front = u2 handler.handler_pc;
      back = u2 handler.catch_type;
      first = (n.target, refl);
      second = record { value = handler.catch_type; spelled = (n.type, refl); is = refl };
      parts = refl;
    };
    parts = refl;
  };
  parts = n.spelled;
}

abbrev NumbersFail : ℕ → List ℕ → ClassFault → Type 0
NumbersFail total = Either (Number w16) (CutNumber w16 total) (λ start. Either (Number w16) (CutNumber w16 total)
    (λ end'. Either (Number w16) (CutNumber w16 total) (λ handler. CutNumber w16 total)))

numbers_lawful : (total : ℕ) → Lawful (handler_numbers_at total) IsNumbers (NumbersFail total)
unfolding handler_numbers_at
numbers_lawful total =
    restated
    (then_lawful (number_at w16 total)
    (λ bytes start. number_at w16 total start.1 >>= λ end'. number_at w16 total end'.1 >>= λ handler.
    number_at w16 total handler.1 >>= λ catch. Ok (handler_of start.0 end'.0 handler.0 catch.0, catch.1))
    (number_lawful w16 wide16 total)
    (λ bytes start text s. then_lawful (number_at w16 total)
    (λ bytes end'. number_at w16 total end'.1 >>= λ handler. number_at w16 total
    handler.1 >>= λ catch. Ok (handler_of start end'.0 handler.0 catch.0, catch.1)) (number_lawful w16 wide16 total)
    (λ bytes end' text s. then_lawful (number_at w16 total)
    (λ bytes handler. number_at w16 total handler.1 >>= λ catch. Ok
    (handler_of start end' handler.0 catch.0, catch.1)) (number_lawful w16 wide16 total)
    (λ bytes handler text s. map_lawful (λ catch. handler_of start end' handler catch) (number_at w16 total)
    (Number w16)
    (CutNumber w16 total) (number_lawful w16 wide16 total)))))
    numbers_are numbers_again

handler_decides : (pool : List Constant) (n : ℕ) (h : ExceptionHandler)
    → Decides (is_handler pool n h) (IsHandler pool n h)
handler_decides pool n h = (
  λ e.
      let c = and_parts (ltb h.start_pc h.end_pc && leb h.end_pc n && ltb h.handler_pc n)
      (is_class_or_none pool h.catch_type) e in
      let t = and_parts (ltb h.start_pc h.end_pc && leb h.end_pc n) (ltb h.handler_pc n) c.0 in
      let r = and_parts (ltb h.start_pc h.end_pc) (leb h.end_pc n) t.0 in
      record {
        range = ltb-true _ _ r.0;
        range_end = leb-true _ _ r.1;
        target = ltb-true _ _ t.1;
        type =
            (class_or_none_decides pool h.catch_type).0 c.1;
      },
  λ f.
      let r = and_from (ltb h.start_pc h.end_pc) (leb h.end_pc n) (lt-ltb _ _ f.range) (le-leb _ _ f.range_end) in
      let t = and_from (ltb h.start_pc h.end_pc && leb h.end_pc n) (ltb h.handler_pc n) r (lt-ltb _ _ f.target) in
      and_from (ltb h.start_pc h.end_pc && leb h.end_pc n && ltb h.handler_pc n) (is_class_or_none pool h.catch_type) t
      ((class_or_none_decides pool h.catch_type).1 f.type),
)

abbrev IsHandlerText : List Constant → ℕ → List ExceptionHandler → ExceptionHandler → List ℕ → Type 0
IsHandlerText pool n = IsItem handler_text (IsHandler pool n) Anything

pub super_below : (pool : List Constant) (index : ℕ) → length pool < 2 ^ 16 → IsSuperClass pool index → index < 2 ^ 16
super_below pool index small (inl none) = omega (arith, none)
super_below pool index small (inr class) = let lt = within IsClass pool index class in omega (arith, lt, small)

handler_numbers : (pool : List Constant) (n : ℕ) (handler : ExceptionHandler) (text : List ℕ) → length pool < 2 ^ 16
    → n < 65536
    → IsHandler pool n handler → text ≡ handler_text handler → IsNumbers handler text
handler_numbers pool n handler text small short h e = record {
  start = omega (arith, h.range, h.range_end, short);
  end' = omega (arith, h.range_end, short);
  target = omega (arith, h.target, short);
  type = super_below pool handler.catch_type small h.type;
  spelled = e;
}

handler_lawful : (pool : List Constant) (n : ℕ) → length pool < 2 ^ 16 → n < 65536
    → (total : ℕ) (earlier : List ExceptionHandler)
    → Lawful (handler_at pool n total) (IsHandlerText pool n earlier)
    (λ bytes. RuleFails IsNumbers (NumbersFail total) (IsHandler pool n)
    (λ h. faults.Index (offset total bytes)) bytes)
unfolding handler_at
handler_lawful pool n small short total earlier =
    restated (ruled_lawful (handler_numbers_at total) (is_handler pool n) (IsHandler pool n)
    (λ bytes h. faults.Index (offset total bytes))
    (handler_decides pool n) (numbers_lawful total))
    (λ h text s. record { fits = s.1; pairs = λ k d lt. tt; spelled = s.0.spelled })
    (λ h text s. (handler_numbers pool n h text small short s.fits s.spelled, s.fits))

abbrev HandlerTable : List Constant → ℕ → List ExceptionHandler → List ℕ → Type 0
HandlerTable pool n = IsTableText handler_text (IsHandler pool n) Anything

abbrev HandlersFail : List Constant → ℕ → ℕ → List ℕ → ClassFault → Type 0
HandlersFail pool n total =
    TableFails (IsHandlerText pool n) (λ earlier bytes. RuleFails IsNumbers (NumbersFail total) (IsHandler pool n)
    (λ h. faults.Index (offset total bytes)) bytes) total

handlers_lawful : (pool : List Constant) (n : ℕ) → length pool < 2 ^ 16 → n < 65536 → (total : ℕ)
    → Lawful (exceptions_at pool n total) (HandlerTable pool n) (HandlersFail pool n total)
unfolding exceptions_at
handlers_lawful pool n small short total =
    table_lawful handler_text (IsHandler pool n) Anything
    (λ earlier bytes. RuleFails IsNumbers (NumbersFail total) (IsHandler pool n)
    (λ h. faults.Index (offset total bytes)) bytes) (λ earlier. handler_at pool n total) total
    (handler_lawful pool n small short total)

-- ---- code

record IsCodeBytes (code text : List ℕ) : Type 0 where
  not_empty : 0 < length code
  code_length : length code < 65536
  spelled : text ≡ u4 (length code) ++ code

abbrev IsLength : ℕ → Type 0
IsLength n = (0 < n) × (n < 65536)

length_decides : (n : ℕ) → Decides (is_code_length n) (IsLength n)
length_decides n = (
  λ e. let b = and_parts (ltb 0 n) (ltb n 65536) e in (ltb-true _ _ b.0, ltb-true _ _ b.1),
  λ h. and_from (ltb 0 n) (ltb n 65536) (lt-ltb _ _ h.0) (lt-ltb _ _ h.1),
)

abbrev LengthFails : ℕ → List ℕ → ClassFault → Type 0
LengthFails total bytes = RuleFails (Number w32) (CutNumber w32 total) IsLength (λ n. faults.Index (offset total bytes))
    bytes

length_lawful : (total : ℕ) → Lawful (code_length_at total) (Ruled (Number w32) IsLength) (LengthFails total)
unfolding code_length_at
length_lawful total =
    ruled_lawful (number_at w32 total) is_code_length IsLength (λ bytes n. faults.Index (offset total bytes))
    length_decides (number_lawful w32 wide32 total)

code_bytes_are : (code text : List ℕ) → Both (Ruled (Number w32) IsLength) (λ n. Run n) code text
    → IsCodeBytes code text
code_bytes_are code text s =
    let number-is : u4 s.value ≡ u4 (length code) = ap (λ (n : ℕ). u4 n) (sym s.second.0) in
    record {
      not_empty = omega (arith, s.second.0, s.first.1.0);
      code_length = omega (arith, s.second.0, s.first.1.1);
      spelled = s.parts ∙ append_equal s.front (u4 (length code)) s.back code (s.first.0.1 ∙ number-is) s.second.1;
    }

code_bytes_again : (code text : List ℕ) → IsCodeBytes code text
    → Both (Ruled (Number w32) IsLength) (λ n. Run n) code text
code_bytes_again code text c = record {
  value = length code;
  front = u4 (length code);
  back = code;
  first = ((omega (arith, c.code_length), refl), (c.not_empty, c.code_length));
  second = (refl, refl);
  parts = c.spelled;
}

abbrev CodeBytesFail : ℕ → List ℕ → ClassFault → Type 0
CodeBytesFail total = Either (Ruled (Number w32) IsLength) (LengthFails total) (λ n. Cut n total)

code_bytes_lawful : (total : ℕ) → Lawful (code_bytes_at total) IsCodeBytes (CodeBytesFail total)
unfolding code_bytes_at
code_bytes_lawful total =
    restated (then_lawful (code_length_at total) (λ bytes n. run_at n.0 total n.1) (length_lawful total)
    (λ bytes n text s. run_lawful n total)) code_bytes_are code_bytes_again

-- the facts on code but for its own length
record IsCodeText (pool : List Constant) (code : Code) (text : List ℕ) : Type 0 where
  max_stack : code.max_stack < 2 ^ 16
  max_locals : code.max_locals < 2 ^ 16
  not_empty : 0 < length code.code
  code_length : length code.code < 65536
  exceptions : HandlerTable pool (length code.code) code.exceptions (table_text handler_text code.exceptions)
  attributes : UnreadTable pool code.attributes (table_text unread_text code.attributes)
  spelled : text ≡ code_text code

abbrev CodeParts : List Constant → Code → List ℕ → Type 0
CodeParts pool = Both (Number w16)
    (λ max_stack. Both (Number w16) (λ max_locals. Both IsCodeBytes (λ code. Both (HandlerTable pool (length code))
    (λ exceptions. Mapped (λ attributes. code_of max_stack max_locals code exceptions attributes) (UnreadTable pool)))))

code_is : (pool : List Constant) (code : Code) (text : List ℕ) → CodeParts pool code text → IsCodeText pool code text
code_is pool code text s =
    let locals = s.second in
    let bytes = locals.second in
    let exceptions = bytes.second in
    let attributes = exceptions.second in
    let made = code_of s.value locals.value bytes.value exceptions.value attributes.value in
    let one = exceptions.parts
    ∙ append_equal exceptions.front (table_text handler_text exceptions.value) exceptions.back
    (table_text unread_text attributes.value) exceptions.first.spelled attributes.spelled.spelled in
    let two = bytes.parts ∙ append_equal bytes.front (u4 (length bytes.value) ++ bytes.value) bytes.back
    (table_text handler_text exceptions.value ++ table_text unread_text attributes.value) bytes.first.spelled one in
    let three = locals.parts
    ∙ append_equal locals.front (u2 locals.value) locals.back
    ((u4 (length bytes.value) ++ bytes.value)
    ++ (table_text handler_text exceptions.value ++ table_text unread_text attributes.value))
    locals.first.1 two in
    let text-is : text ≡ code_text made = s.parts ∙ append_equal s.front (u2 s.value) s.back _ s.first.1 three in
    let it : IsCodeText pool made text = record {
      max_stack = s.first.0;
      max_locals = locals.first.0;
      not_empty = bytes.first.not_empty;
      code_length = bytes.first.code_length;
      exceptions =
          record {
            count = exceptions.first.count;
            each = exceptions.first.each;
            pairs = exceptions.first.pairs;
            spelled = refl;
          };
      attributes = record {
        count = attributes.spelled.count;
        each = attributes.spelled.each;
        pairs = attributes.spelled.pairs;
        spelled =
            refl;
      };
      spelled = text-is;
    } in
    let P : Code → Type 0 = λ z. IsCodeText pool z text in subst P (sym attributes.is) it

code_again : (pool : List Constant) (code : Code) (text : List ℕ) → IsCodeText pool code text → CodeParts pool code text
code_again pool code text c =
    let last = table_text unread_text code.attributes in
    let four = table_text handler_text code.exceptions ++ last in
    let three = (u4 (length code.code) ++ code.code) ++ four in
    record {
      value = code.max_stack;
      front = u2 code.max_stack;
      back = u2 code.max_locals ++ three;
      first = (c.max_stack, refl);
      second = record {
        value = code.max_locals;
        front = u2 code.max_locals;
        back = three;
        first = (c.max_locals, refl);
        second = record {
          value = code.code;
          front = u4 (length code.code) ++ code.code;
          back = four;
          first = record { not_empty = c.not_empty; code_length = c.code_length; spelled = refl };
          second = record {
            value = code.exceptions;
            front = table_text handler_text code.exceptions;
            back = last;
            first = c.exceptions;
            second = record { value = code.attributes; spelled = c.attributes; is = refl };
            parts = refl;
          };
          parts = refl;
        };
        parts = refl;
      };
      parts = c.spelled;
    }

abbrev CodeFails : List Constant → ℕ → List ℕ → ClassFault → Type 0
CodeFails pool total =
    Either (Number w16) (CutNumber w16 total) (λ max_stack. Either (Number w16) (CutNumber w16 total)
    (λ max_locals. Either IsCodeBytes (CodeBytesFail total) (λ code. Either (HandlerTable pool (length code))
    (HandlersFail pool (length code) total)
    (λ exceptions. TableFails (IsUnreadText pool) (λ earlier. FrameFails pool total) total))))

code_lawful : (pool : List Constant) → length pool < 2 ^ 16 → (total : ℕ)
    → Lawful (code_at pool total) (IsCodeText pool) (CodeFails pool total)
unfolding code_at
code_lawful pool small total =
    restated
    (then_lawful (number_at w16 total) (λ bytes max_stack. number_at w16 total max_stack.1 >>= λ max_locals.
    code_bytes_at total
    max_locals.1 >>= λ code. exceptions_at pool (length code.0) total code.1 >>= λ exceptions.
    unread_attributes_at pool total
    exceptions.1 >>= λ attributes. Ok (code_of max_stack.0 max_locals.0 code.0 exceptions.0 attributes.0, attributes.1))
    (number_lawful w16 wide16 total)
    (λ bytes max_stack text s. then_lawful (number_at w16 total)
    (λ bytes max_locals. code_bytes_at total max_locals.1 >>= λ code. exceptions_at pool (length code.0) total code.1
    >>= λ exceptions.
    unread_attributes_at pool total exceptions.1 >>= λ attributes. Ok
    (code_of max_stack max_locals.0 code.0 exceptions.0 attributes.0, attributes.1)) (number_lawful w16 wide16 total)
    (λ bytes max_locals text s. then_lawful (code_bytes_at total)
    (λ bytes code. exceptions_at pool (length code.0) total code.1 >>= λ exceptions. unread_attributes_at pool total
    exceptions.1 >>=
    λ attributes. Ok (code_of max_stack max_locals code.0 exceptions.0 attributes.0, attributes.1))
    (code_bytes_lawful total)
    (λ bytes code text s. then_lawful (exceptions_at pool (length code) total)
    (λ bytes exceptions. unread_attributes_at pool total exceptions.1 >>= λ attributes. Ok
    (code_of max_stack max_locals code exceptions.0 attributes.0, attributes.1))
    (handlers_lawful pool (length code) small s.code_length total)
    (λ bytes exceptions text s. map_lawful (λ attributes. code_of max_stack max_locals code exceptions attributes)
    (unread_attributes_at pool total) (UnreadTable pool)
    (TableFails (IsUnreadText pool) (λ earlier. FrameFails pool total) total)
    (unread_table_lawful pool small total))))))
    (code_is pool) (code_again pool)

-- code that fills its attribute
pub whole_code_is : (pool : List Constant) (bytes : List ℕ) (code : Code) → length pool < 2 ^ 16 → IsBytes bytes
    → length bytes < 2 ^ 32
    → whole_code pool bytes ≡ Ok code → IsCode pool code × (bytes ≡ code_text code)
unfolding whole_code
whole_code_is pool bytes code small fits short e =
    let c = whole_takes (code_at pool (length bytes)) (code_lawful pool small (length bytes))
    (length bytes) bytes code fits e in
    let P : List ℕ → Type 0 = λ z. length z < 2 ^ 32 in (
      record {
        max_stack = c.max_stack;
        max_locals = c.max_locals;
        not_empty = c.not_empty;
        code_length = c.code_length;
        exception_count = c.exceptions.count;
        exceptions = c.exceptions.each;
        attribute_count = c.attributes.count;
        attributes = c.attributes.each;
        size = subst P c.spelled short;
      },
      c.spelled,
    )

pub whole_code_again : (pool : List Constant) (code : Code) → length pool < 2 ^ 16 → IsCode pool code
    → whole_code pool (code_text code) ≡ Ok code
unfolding whole_code
whole_code_again pool code small c =
    let it : IsCodeText pool code (code_text code) = record {
      max_stack = c.max_stack;
      max_locals = c.max_locals;
      not_empty = c.not_empty;
      code_length = c.code_length;
      exceptions =
          record { count = c.exception_count; each = c.exceptions; pairs = λ i j d lt end'. tt; spelled = refl };
      attributes =
          record { count = c.attribute_count; each = c.attributes; pairs = λ i j d lt end'. tt; spelled = refl };
      spelled = refl;
    } in
    whole_again (code_at pool (length (code_text code))) (code_lawful pool small (length (code_text code)))
    (length (code_text code))
    (code_text code) code it
