-- What is printed in a line has no newline, and the line ends in its only one.
use Rattle.std.proofs.Common.{◌≡◌, ◌≢◌, ◌∙◌, ◌+◌, ◌/◌, ◌==◌, ◌%◌, ℕ, zero, suc, ℤ, pos, negsuc, Bool, true, false}
use Rattle.std.proofs.Common.{List, [], ◌∷◌, ◌++◌, Option, Some, None, append_assoc, codes, cond, decimal, map, not}
use Rattle.std.proofs.Common.{if◌then◌else◌, nat_eq, nat_lt, refl, sym, ap, subst, arith}
use Rattle.std.specs.Fmt.{digit_glyph, digits, digits_onto, signed_decimal}
use Rattle.std.specs.List.{concat, list_all}
use Rattle.std.specs.Prelude.{slice_get}
use Rattle.std.proofs.lemmas.Bool.{and_parts}
use Rattle.pp_tokens.proofs.Every.{Every}
use Rattle.pp_line_contents.proofs.Spans.{every_append, every_contained, every_of}
use Rattle.pp_line_contents.specs.Contents.{Content, Prints, depending, failed, left_open, valid}
use Rattle.pp_line_contents.specs.Laws.{CountsEndOnce, IsLegible, LinesEndOnce}
use Rattle.pp_line_contents.specs.Lines.{HasNoNewline, IsOneLine}
use Rattle.pp_print.specs.Lines.{check_text, kind_text, place_text, reason_text, round_text}
use Rattle.pp_print.specs.Values.{after_comma, arguments_text, bool_text, in_brackets, joined, tree_text, value_step}
use Rattle.pp_print.specs.Values.{value_text}
use Rattle.pp_print.specs.declared.line.Reason.{Reason}
use Rattle.pp_print.specs.declared.line.Reason.TheVariants as reason
use Rattle.pp_prog.specs.declared.check.CheckKind.{CheckKind}
use Rattle.pp_prog.specs.declared.check.CheckKind.TheVariants as kind
use Rattle.pp_prog.specs.declared.expr.Function.{Function}
use Rattle.pp_prog.specs.declared.expr.Param.{Param}
use Rattle.pp_prog.specs.declared.place.Place.{Place}
use Rattle.pp_prog.specs.declared.program.Program.{Program}
use Rattle.pp_prog.specs.declared.types.Ctor.{Ctor}
use Rattle.pp_prog.specs.declared.value.Value.{Value}
use Rattle.pp_prog.specs.declared.value.Value.TheFolds.{fold-roll-Value, ind-Value, map-Value}
use Rattle.pp_prog.specs.declared.value.Value.TheOpen as layer
use Rattle.pp_prog.specs.declared.value.Value.TheViews.{roll-Value}

abbrev pub NotNewline : ℕ → Type 0
NotNewline b = b ≢ 10

-- a text without a newline
record IsPlain (text : List ℕ) : Type 0 where
  pub each : Every NotNewline text

empty : IsPlain []
empty = record { each = tt }

more : (b : ℕ) (bs : List ℕ) → NotNewline b → IsPlain bs → IsPlain (b ∷ bs)
more b bs h k = record { each = (h, k.each) }

both : (xs ys : List ℕ) → IsPlain xs → IsPlain ys → IsPlain (xs ++ ys)
both xs ys h k = record { each = every_append NotNewline xs ys h.each k.each }

either : (b : Bool) (xs ys : List ℕ) → IsPlain xs → IsPlain ys → IsPlain (cond b xs ys)
either true xs ys h k = h
either false xs ys h k = k

-- ---- words

abbrev passes : ℕ → Bool
passes b = not (nat_eq b 10)

not_newline : (b : ℕ) → passes b ≡ true → NotNewline b
not_newline b h is = let no : false ≡ true = sym (ap passes is) ∙ h in cc

each_passes : (bs : List ℕ) → list_all passes bs ≡ true → Every NotNewline bs
each_passes [] h = tt
each_passes (b ∷ bs) h = let p = and_parts (passes b) (list_all passes bs) h in (not_newline b p.0, each_passes bs p.1)

-- each byte of the words is another one
known : (bs : List ℕ) → list_all passes bs ≡ true → IsPlain bs
known bs h = record { each = each_passes bs h }

-- ---- numbers

glyph_plain : (d : ℕ) → NotNewline (digit_glyph false d)
glyph_plain d = by (nat_lt d 10)
  where
    by : (b : Bool) → NotNewline (if b then 48 + d else 87 + d)
    by true is = omega (arith, is)
    by false is = omega (arith, is)

digits_plain : (k n : ℕ) (acc : List ℕ) → IsPlain acc → IsPlain (digits_onto k 10 false n acc)
digits_plain zero n acc h = h
digits_plain (suc k) n acc h =
    let here = more (digit_glyph false (n % 10)) acc (glyph_plain (n % 10)) h in
    either (n / 10 == 0) (digit_glyph false (n % 10) ∷ acc)
    (digits_onto k 10 false (n / 10) (digit_glyph false (n % 10) ∷ acc)) here
    (digits_plain k (n / 10) (digit_glyph false (n % 10) ∷ acc) here)

number : (n : ℕ) → IsPlain (decimal n)
unfolding digits
number n = digits_plain 64 n [] empty

signed : (n : ℤ) → IsPlain (signed_decimal n)
signed (pos n) = number n
signed (negsuc n) = more 45 (decimal (suc n)) (not_newline 45 refl) (number (suc n))

-- ---- checks, rounds and reasons

kind_plain : (k : CheckKind) → IsPlain (kind_text k)
kind_plain kind.Precondition = known (codes "precondition") refl
kind_plain kind.Postcondition = known (codes "postcondition") refl
kind_plain kind.Match = known (codes "match") refl
kind_plain kind.Division = known (codes "division") refl
kind_plain kind.Measure = known (codes "measure") refl
kind_plain kind.Assertion = known (codes "assertion") refl

place_plain : (z : Place) → IsPlain (place_text z)
place_plain z =
    both (decimal z.source) _ (number z.source)
    (both (codes ":") _ (known (codes ":") refl)
    (both (decimal z.line) _ (number z.line) (both (codes ":") _ (known (codes ":") refl) (number z.column))))

check_plain : (k : CheckKind) (z : Place) → IsPlain (check_text k z)
check_plain k z =
    both (kind_text k) _ (kind_plain k) (both (codes " at ") _ (known (codes " at ") refl) (place_plain z))

reason_plain : (w : Reason) → IsPlain (reason_text w)
reason_plain reason.Rounds = known (codes "rounds") refl
reason_plain reason.Lemmas = known (codes "lemmas") refl
reason_plain reason.Size = known (codes "size") refl

round_plain : (n : Option ℕ) → IsPlain (round_text n)
round_plain None = known (codes "before round 0") refl
round_plain (Some n) = both (codes "at round ") (decimal n) (known (codes "at round ") refl) (number n)

-- ---- values

truth : (b : Bool) → IsPlain (bool_text b)
truth true = known (codes "true") refl
truth false = known (codes "false") refl

after_commas : (ts : List (List ℕ)) → Every IsPlain ts → IsPlain (concat (map after_comma ts))
after_commas [] h = empty
after_commas (t ∷ ts) h =
    both (after_comma t) (concat (map after_comma ts))
    (both (codes ", ") t (known (codes ", ") refl) h.0) (after_commas ts h.1)

joined_plain : (ts : List (List ℕ)) → Every IsPlain ts → IsPlain (joined ts)
joined_plain [] h = empty
joined_plain (t ∷ ts) h = both t (concat (map after_comma ts)) h.0 (after_commas ts h.1)

brackets_plain : (ts : List (List ℕ)) → Every IsPlain ts → IsPlain (in_brackets ts)
brackets_plain ts h =
    both (codes "(") _ (known (codes "(") refl)
    (both (joined ts) (codes ")") (joined_plain ts h) (known (codes ")") refl))

module _ (ctors : List Ctor) (named : (c : ℕ) (a : Ctor) → slice_get ctors c ≡ Some a → IsPlain a.name) where
  abbrev text : Value → List ℕ
  text = value_text ctors

  abbrev PlainValue : Type 0
  PlainValue = (v : Value) × IsPlain (text v)

  abbrev value_of : PlainValue → Value
  value_of y = y.0

  parts : (ys : List PlainValue) → Every IsPlain (map text (map value_of ys))
  parts [] = tt
  parts (y ∷ ys) = (y.1, parts ys)

  tree_plain : (o : Option Ctor) (ts : List (List ℕ)) → ((a : Ctor) → o ≡ Some a → IsPlain a.name)
      → Every IsPlain ts → IsPlain (tree_text o ts)
  tree_plain None ts h k = brackets_plain ts k
  tree_plain (Some a) ts h k =
      either a.object a.name (a.name ++ in_brackets ts) (h a refl)
      (both a.name (in_brackets ts) (h a refl) (brackets_plain ts k))

  level : (y : layer.Value-F PlainValue)
      → IsPlain (value_step ctors (map-Value Value (List ℕ) text (map-Value PlainValue Value value_of y)))
  level (layer.Int n) = signed n
  level (layer.Bool b) = truth b
  level (layer.Tree c ys) =
      tree_plain (slice_get ctors c.0) (map text (map value_of ys)) (named c.0) (parts ys)

  at_level : (y : layer.Value-F PlainValue) → IsPlain (text (roll-Value (map-Value PlainValue Value value_of y)))
  at_level y =
      subst IsPlain (sym (fold-roll-Value (List ℕ) (value_step ctors) (map-Value PlainValue Value value_of y)))
      (level y)

  value_plain : (v : Value) → IsPlain (text v)
  value_plain =
      ind-Value (λ v. IsPlain (text v)) (λ x y is. subst (λ z. IsPlain (text (roll-Value z))) is (at_level y))

  arguments_plain : (ps : List Param) (vs : List Value) → Every (λ (q : Param). IsPlain q.name) ps
      → IsPlain (arguments_text ctors ps vs)
  arguments_plain [] vs h = empty
  arguments_plain (p ∷ ps) [] h = empty
  arguments_plain (p ∷ ps) (v ∷ vs) h =
      both (codes ", " ++ (p.name ++ (codes " = " ++ text v))) (arguments_text ctors ps vs)
      (both (codes ", ") _ (known (codes ", ") refl)
      (both p.name _ h.0 (both (codes " = ") (text v) (known (codes " = ") refl) (value_plain v))))
      (arguments_plain ps vs h.1)

-- ---- lines

plain_of : (text : List ℕ) → HasNoNewline text → IsPlain text
plain_of text h = record { each = every_of NotNewline text h }

-- words and a newline
one_line : (bs : List ℕ) → IsPlain bs → IsOneLine (bs ++ 10 ∷ [])
one_line bs h = record { words = bs; plain = every_contained NotNewline bs h.each; ended = refl }

-- a line with something before it
behind : (xs ys : List ℕ) → IsPlain xs → IsOneLine ys → IsOneLine (xs ++ ys)
behind xs ys h line = record {
  words = xs ++ line.words;
  plain = every_contained NotNewline (xs ++ line.words) (both xs line.words h (plain_of line.words line.plain)).each;
  ended = ap (λ l. xs ++ l) line.ended ∙ sym (append_assoc xs line.words (10 ∷ []));
}

-- `K checks`
checks_line : (n : ℕ) → IsOneLine (decimal n ++ codes " checks\n")
checks_line n = behind (decimal n) _ (number n) (one_line (codes " checks") (known (codes " checks") refl))

module _ (p : Program) (legible : IsLegible p) where
  name_plain : (i : ℕ) (f : Function) → slice_get p.functions i ≡ Some f → IsPlain f.name
  name_plain i f at = plain_of f.name (λ b here. (legible.named i f at b here).0)

  ctor_plain : (c : ℕ) (a : Ctor) → slice_get p.types.ctors c ≡ Some a → IsPlain a.name
  ctor_plain c a at = plain_of a.name (λ b here. (legible.unmarked c a at b here).0)

  params_plain : (i : ℕ) (f : Function) → slice_get p.functions i ≡ Some f
      → Every (λ (q : Param). IsPlain q.name) f.params
  params_plain i f at =
      every_of (λ (q : Param). IsPlain q.name) f.params (λ q here. plain_of q.name (legible.params i f q at here))

  ends_once : (i : ℕ) (f : Function) → slice_get p.functions i ≡ Some f → (line : List ℕ) (a : Content)
      → Prints p i f line a → IsOneLine line
  ends_once i f at line (valid n) h =
      subst IsOneLine (sym h.text)
      (behind f.name _ (name_plain i f at)
      (behind (codes ": valid, ") _ (known (codes ": valid, ") refl) (checks_line n)))
  ends_once i f at line (depending g n) h =
      subst IsOneLine (sym h.text)
      (behind f.name _ (name_plain i f at)
      (behind (codes ": depends on ") _ (known (codes ": depends on ") refl)
      (behind h.on.name _ (name_plain g.0 h.on h.here)
      (behind (codes ", ") _ (known (codes ", ") refl) (checks_line n)))))
  ends_once i f at line (failed c args) h =
      subst IsOneLine (sym h.text)
      (behind f.name _ (name_plain i f at)
      (behind (codes ": invalid, ") _ (known (codes ": invalid, ") refl)
      (behind (check_text h.own.check.kind h.own.check.place) _ (check_plain h.own.check.kind h.own.check.place)
      (one_line (arguments_text p.types.ctors f.params args)
      (arguments_plain p.types.ctors ctor_plain f.params args (params_plain i f at))))))
  ends_once i f at line (left_open searched c why) h =
      subst IsOneLine (sym h.text)
      (behind f.name _ (name_plain i f at)
      (behind (codes ": open ") _ (known (codes ": open ") refl)
      (behind (round_text searched) _ (round_plain searched)
      (behind (codes ", ") _ (known (codes ", ") refl)
      (behind (check_text h.own.check.kind h.own.check.place) _ (check_plain h.own.check.kind h.own.check.place)
      (behind (codes ", ") _ (known (codes ", ") refl) (one_line (reason_text why) (reason_plain why))))))))

pub lines_end_once : LinesEndOnce
lines_end_once p legible i f at line a h = ends_once p legible i f at line a h

pub counts_end_once : CountsEndOnce
counts_end_once n =
    behind (decimal n.valid) _ (number n.valid)
    (behind (codes " valid, ") _ (known (codes " valid, ") refl)
    (behind (decimal n.invalid) _ (number n.invalid)
    (behind (codes " invalid, ") _ (known (codes " invalid, ") refl)
    (behind (decimal n.undecided) _ (number n.undecided)
    (behind (codes " open, ") _ (known (codes " open, ") refl)
    (behind (decimal n.depending) _ (number n.depending)
    (one_line (codes " depending") (known (codes " depending") refl))))))))
