-- The lines of refusals are those of their causes.
use Rattle.std.proofs.Common.{◌≡◌, ℕ, List, ◌∷◌, ◌++◌, All, IsUtf8, arith, refl, subst, sym}
use Rattle.std.specs.Prelude.{Contains}
use Rattle.std.specs.Str.{IsCharBoundary}
use Rattle.std.proofs.lemmas.List.Elements.{All-contains, Contains-append_right}
use Rattle.pp_grammar_laws.specs.Laws.{BeginsToken}
use Rattle.pp_parse.specs.declared.fault.ParseFault.{ParseFault}
use Rattle.pp_parse.specs.declared.fault.ParseFault.TheVariants.{Syntax, TooDeep, Unsupported}
use Rattle.pp_parse.specs.Spelled.{IsWhy, StandsAtToken}
use Rattle.pp_print.specs.Faults.{named_fault_text}
use Rattle.pp_print.specs.declared.fault.NamedFault.TheVariants as named
use Rattle.pp_print.specs.declared.fault.SourceFault.TheVariants as fault
use Rattle.pp_print.specs.Refusals.{not_utf8_text}
use Rattle.pp_source.specs.Refuses.{Refuses, bad_character, bad_number, fault_line, left_out, misspelt, not_utf8}
use Rattle.pp_source.specs.Refuses.{open_comment, place_in, too_deep}
use Rattle.pp_source.specs.Told.{OnLine}
use Rattle.pp_source.specs.declared.refusal.Refusal.{Refusal}
use Rattle.pp_source.specs.declared.refusal.Refusal.TheVariants.{Line, Memory}
use Rattle.pp_text.specs.Fault.{IsCause as IsTextCause}
use Rattle.pp_text.specs.declared.text.TextFault.{TextFault}
use Rattle.pp_text.specs.declared.text.TextFault.TheVariants.{NotUtf8}
use Rattle.pp_tokens.specs.Spans.{IsSpan}
use Rattle.pp_tokens.specs.Tokens.{IsCause, spelled, tokens_of}
use Rattle.pp_tokens.specs.declared.token.LexFault.{LexFault}
use Rattle.pp_tokens.specs.declared.token.LexFault.TheVariants.{BadChar, BadNumber, OpenComment}
use Rattle.pp_tokens.specs.declared.token.Token.{Token}

on_line : (r : Refusal) (x : List ℕ) (P : List ℕ → Type 0) → OnLine r (λ line. line ≡ x) → P x → OnLine r P
on_line (Line line) x P e h = subst P (sym e) h
on_line Memory x P e h = tt

module _ (number : ℕ) (bytes : List ℕ) (r : Refusal) (at : ℕ) where
  abbrev Says : fault.the_data → Type 0
  Says kind = OnLine r (λ line. line ≡ fault_line kind number bytes at)

  pub at_character : (f : LexFault) → f ≡ BadChar at → IsUtf8 bytes → IsCause f (tokens_of bytes)
      → Says fault.BadCharacter → OnLine r (Refuses number bytes)
  at_character f is utf8 cause says =
      on_line r _ (Refuses number bytes) says
      (bad_character at utf8 (subst (λ (g : LexFault). IsCause g (tokens_of bytes)) is cause))

  pub at_number : (f : LexFault) → f ≡ BadNumber at → IsUtf8 bytes → IsCause f (tokens_of bytes)
      → Says fault.BadNumber → OnLine r (Refuses number bytes)
  at_number f is utf8 cause says =
      on_line r _ (Refuses number bytes) says
      (bad_number at utf8 (subst (λ (g : LexFault). IsCause g (tokens_of bytes)) is cause))

  pub at_comment : (f : LexFault) → f ≡ OpenComment at → IsUtf8 bytes → IsCause f (tokens_of bytes)
      → Says fault.OpenComment → OnLine r (Refuses number bytes)
  at_comment f is utf8 cause says =
      on_line r _ (Refuses number bytes) says
      (open_comment at utf8 (subst (λ (g : LexFault). IsCause g (tokens_of bytes)) is cause))

  pub where_misspelt : (ts : List Token) (f : ParseFault) → f ≡ Syntax at → IsUtf8 bytes → tokens_of bytes ≡ spelled ts
      → IsWhy f bytes ts → StandsAtToken f ts → Says fault.Syntax → OnLine r (Refuses number bytes)
  where_misspelt ts f is utf8 cut why begins says =
      on_line r _ (Refuses number bytes) says
      (misspelt at ts utf8 cut (subst (λ (g : ParseFault). IsWhy g bytes ts) is why)
      (subst (λ (g : ParseFault). StandsAtToken g ts) is begins))

  pub where_too_deep : (ts : List Token) (f : ParseFault) → f ≡ TooDeep at → IsUtf8 bytes → tokens_of bytes ≡ spelled ts
      → IsWhy f bytes ts → Says fault.TooDeep → OnLine r (Refuses number bytes)
  where_too_deep ts f is utf8 cut why says =
      on_line r _ (Refuses number bytes) says
      (too_deep at ts utf8 cut (subst (λ (g : ParseFault). IsWhy g bytes ts) is why))

  pub where_left_out : (ts : List Token) (f : ParseFault) (name shown : List ℕ) → f ≡ Unsupported name at
      → shown ≡ name → IsUtf8 bytes
      → tokens_of bytes ≡ spelled ts → IsWhy f bytes ts → StandsAtToken f ts
      → OnLine r (λ line. line ≡ named_fault_text named.Unsupported shown (place_in number bytes at))
      → OnLine r (Refuses number bytes)
  where_left_out ts f name shown is same utf8 cut why begins says =
      on_line r _ (Refuses number bytes) says
      (subst (λ (w : List ℕ). Refuses number bytes (named_fault_text named.Unsupported w (place_in number bytes at)))
      (sym same)
      (left_out at name ts utf8 cut (subst (λ (g : ParseFault). IsWhy g bytes ts) is why)
      (subst (λ (g : ParseFault). StandsAtToken g ts) is begins)))

pub where_not_utf8 : (number : ℕ) (bytes line : List ℕ) (at : ℕ) (f : TextFault) → f ≡ NotUtf8 at → IsTextCause f bytes
    → line ≡ not_utf8_text at number → Refuses number bytes line
where_not_utf8 number bytes line at f is cause says =
    let why = subst (λ (g : TextFault). IsTextCause g bytes) is cause in
    subst (Refuses number bytes) (sym says) (not_utf8 at why.0 why.1)

-- a token begins where a character does
pub token_boundary : (text : List ℕ) (ts : List Token) (at : ℕ) → All (IsSpan text) ts → BeginsToken ts at
    → IsCharBoundary text at
token_boundary text ts at spans begins =
    let there : Contains (begins.front ++ begins.token ∷ begins.rest) begins.token =
    Contains-append_right begins.front (begins.token ∷ begins.rest) begins.token (0, omega arith, refl) in
    let among : Contains ts begins.token =
    subst (λ (l : List Token). Contains l begins.token) (sym begins.whole) there in
    subst (λ (n : ℕ). IsCharBoundary text n) begins.place
    (All-contains (IsSpan text) ts begins.token spans among).from_boundary
