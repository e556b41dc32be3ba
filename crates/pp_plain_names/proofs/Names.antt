-- The names among the tokens of a text are words, and so are the names that its unit declares and those of parameters.
use lib.Utf8.{encodes}
use Rattle.std.proofs.Common.{◌≡◌, ◌≢◌, ◌<◌, ◌==◌, ◌||◌, true, ◌∙◌, ◌+◌, ◌-◌, ℕ, List, [], ◌∷◌, ◌++◌, append_assoc}
use Rattle.std.proofs.Common.{length, take, drop, Option}
use Rattle.std.proofs.Common.{Some, None, ap, refl, subst, sym, arith, IsUtf8, false}
use Rattle.std.specs.Char.{is_ascii_alphanumeric, len_utf8}
use Rattle.std.specs.List.{slice_range}
use Rattle.std.specs.Prelude.{Contains}
use Rattle.std.proofs.Math.Seq.{drop-append_seam, take-append_seam}
use Rattle.std.proofs.lemmas.List.Elements.{All-contains}
use Rattle.std.proofs.lemmas.List.Sums.{sum_by-append}
use Rattle.std.proofs.lemmas.Str.{encodes-append, encodes-chars}
use Rattle.pp_grammar.specs.Words.{word}
use Rattle.pp_tokens.specs.Characters.{width}
use Rattle.pp_tokens.specs.Cutting.{Part, laid, placed, raw_tokens, token, written}
use Rattle.pp_tokens.specs.Layout.{AreRight, IsPart, IsToken}
use Rattle.pp_tokens.specs.Tokens.{spelled, tokens_of}
use Rattle.pp_tokens.specs.declared.token.Token.{Token}
use Rattle.pp_tokens.specs.declared.token.TokenKind.{TokenKind}
use Rattle.pp_tokens.specs.declared.token.TokenKind.TheVariants.{End, Name}
use Rattle.pp_tokens.proofs.Every.{Every, all_of}
use Rattle.pp_tokens.proofs.Keeping.{all_kept}
use Rattle.pp_tokens.proofs.TokensOf.{is_layout}
use Rattle.pp_tokens.proofs.Widths.{width-encodes}
use Rattle.pp_tree.specs.Plain.{ParamTree}
use Rattle.pp_typed.specs.WellSorted.{IsPlain}
use Rattle.pp_plain_names.proofs.Bytes.{IsFree, chars_free, name_free}
use Rattle.pp_plain_names.proofs.Declared.{WordName, bare_unit, params_unit, word_unit}
use Rattle.pp_plain_names.proofs.Left.{AllOf}
use Rattle.pp_plain_names.specs.Laws.{DeclaredNamesArePlain, DeclaredNamesAreWords, DeclaredObjectsAreBare}
use Rattle.pp_plain_names.specs.Laws.{DeclaredParamsAreWords}
use Rattle.pp_plain_names.specs.Laws.{IsWord, declared_name}

free_word : (bs : List ℕ) → Every IsFree bs → IsWord bs
free_word bs free b here = All-contains IsFree bs b (all_of IsFree bs free) here

-- what holds of the token of a part, if it has one
abbrev OfPart : (Token → Type 0) → Option TokenKind → ℕ → ℕ → Type 0
OfPart P None from to = Unit {0}
OfPart P (Some kind) from to = P (token kind from to)

one_more : (P : Token → Type 0) (o : Option TokenKind) (from to : ℕ) (ts : List Token) → OfPart P o from to
    → Every P ts → Every P (placed o from to ++ ts)
one_more P None from to ts h all = all
one_more P (Some kind) from to ts h all = (h, all)

module _ (bs : List ℕ) where
  -- the bytes between two offsets are those of the characters there
  between : (pre xs ys : List ℕ) → encodes (pre ++ (xs ++ ys)) ≡ bs
      → slice_range bs (width pre) (width pre + width xs) ≡ encodes xs
  between pre xs ys is =
      let whole : bs ≡ encodes pre ++ (encodes xs ++ encodes ys) =
      sym is ∙ encodes-append pre (xs ++ ys) ∙ ap (λ (l : List ℕ). encodes pre ++ l) (encodes-append xs ys) in
      let behind : drop (width pre) bs ≡ encodes xs ++ encodes ys =
      ap (drop (width pre)) whole ∙ ap (λ (n : ℕ). drop n (encodes pre ++ (encodes xs ++ encodes ys)))
      (sym (width-encodes pre))
      ∙ drop-append_seam (encodes pre) (encodes xs ++ encodes ys) in
      let long : width pre + width xs - width pre ≡ length (encodes xs) = omega (arith, width-encodes xs) in
      ap (λ (n : ℕ). take n (drop (width pre) bs)) long ∙ ap (take (length (encodes xs))) behind ∙ take-append_seam
      (encodes xs) (encodes ys)

  word_part : (o : Option TokenKind) (pre xs ys after : List ℕ) → IsPart o xs after → encodes (pre ++ (xs ++ ys)) ≡ bs
      → OfPart (WordName bs) o (width pre) (width pre + width xs)
  word_part None pre xs ys after h is = tt
  word_part (Some kind) pre xs ys after h is = λ name.
      let named : IsToken Name xs after = subst (λ (k : TokenKind). IsToken k xs after) name h in
      subst IsWord (sym (between pre xs ys is))
      (free_word (encodes xs) (chars_free xs (name_free xs named.0.starts named.0.continues)))

  word_parts : (ps : List Part) (pre rest : List ℕ) (ts : List Token) → AreRight ps rest
      → encodes (pre ++ (written ps ++ rest)) ≡ bs
      → Every (WordName bs) ts → Every (WordName bs) (laid (width pre) ps ++ ts)
  word_parts [] pre rest ts right is all = all
  word_parts (p ∷ ps) pre rest ts right is all =
      let ys = written ps ++ rest in
      let is' : encodes (pre ++ (p.text ++ ys)) ≡ bs =
      ap (λ (l : List ℕ). encodes (pre ++ l)) (sym (append_assoc p.text (written ps) rest)) ∙ is in
      let further = word_parts ps (pre ++ p.text) rest ts right.1
      (ap encodes (append_assoc pre p.text ys) ∙ is') all in
      let w : width (pre ++ p.text) ≡ width pre + width p.text = sum_by-append len_utf8 pre p.text in
      subst (λ (l : List Token). Every (WordName bs) l)
      (sym (append_assoc (placed p.kind (width pre) (width pre + width p.text))
      (laid (width pre + width p.text) ps) ts))
      (one_more (WordName bs) p.kind (width pre) (width pre + width p.text) (laid (width pre + width p.text) ps ++ ts)
      (word_part p.kind pre p.text ys ys right.0 is')
      (subst (λ (n : ℕ). Every (WordName bs) (laid n ps ++ ts)) w further))

  no_end_is_name : (at : ℕ) → WordName bs (token End at at)
  no_end_is_name at name = let no : End ≡ Name = name in cc

  word_tokens : (ts : List Token) → IsUtf8 bs → tokens_of bs ≡ spelled ts → Every (WordName bs) ts
  word_tokens ts utf8 is =
      let layout = is_layout bs ts is in
      let ps = layout.parts in
      let whole : encodes (written ps ++ []) ≡ bs = ap encodes layout.laid_out.whole ∙ encodes-chars bs utf8 in
      let raw = word_parts ps [] [] (token End (width (written ps)) (width (written ps)) ∷ []) layout.laid_out.right
      whole
      (no_end_is_name (width (written ps)), tt) in
      subst (λ (l : List Token). Every (WordName bs) l) (sym layout.tokens)
      (all_kept (WordName bs) (raw_tokens ps) [] false None raw tt)

  as_all : (ts : List Token) → Every (WordName bs) ts → AllOf bs (WordName bs) ts
  as_all [] h = tt
  as_all (t ∷ ts) h = (h.0, as_all ts h.1)

pub declared_names_are_words : DeclaredNamesAreWords
declared_names_are_words text tokens unit d utf8 cut spells here =
    word_unit text d spells (as_all text tokens (word_tokens text tokens utf8 cut)) here

pub declared_params_are_words : DeclaredParamsAreWords
declared_params_are_words text tokens unit d q utf8 cut spells here there =
    let words = params_unit text d spells (as_all text tokens (word_tokens text tokens utf8 cut)) here in
    let IsNamed : ParamTree → Type 0 = λ q. IsWord q.name in
    All-contains IsNamed d.params q (all_of IsNamed d.params words) there

-- no word has this mark
pub no_mark : (name : List ℕ) (mark : ℕ) → mark < 128 → (is_ascii_alphanumeric mark || (mark == 95)) ≡ false
    → IsWord name → (b : ℕ) → Contains name b → b ≢ mark
no_mark name mark low other word b here is =
    let no : true ≡ false =
    sym (word b here (omega (arith, is))) ∙ ap (λ x. is_ascii_alphanumeric x || (x == 95)) is ∙ other in cc

pub words_are_plain : (name : List ℕ) → IsWord name → IsPlain name
words_are_plain name word b here = (
  no_mark name 44 (omega arith) refl word b here,
  no_mark name 91 (omega arith) refl word b here,
  no_mark name 93 (omega arith) refl word b here,
)

pub declared_names_are_plain : DeclaredNamesArePlain
declared_names_are_plain text tokens unit d utf8 cut spells here =
    words_are_plain (declared_name d) (declared_names_are_words text tokens unit d utf8 cut spells here)

pub declared_objects_are_bare : DeclaredObjectsAreBare
declared_objects_are_bare text tokens unit d spells here = bare_unit text d spells here
