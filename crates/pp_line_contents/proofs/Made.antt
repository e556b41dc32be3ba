-- The text on functions that were made tells what it says.
use Rattle.std.proofs.Common.{◌≡◌, ◌∙◌, ℕ, List, [], ◌∷◌, ◌++◌, append_assoc, codes, decimal, sym, ap}
use Rattle.std.specs.List.{concat}
use Rattle.std.proofs.lemmas.List.{append-nil, append_cancel_left}
use Rattle.pp_line_contents.proofs.Texts.{counts_same}
use Rattle.pp_line_contents.proofs.Words.{one_decimal}
use Rattle.pp_line_contents.specs.Laws.{MadeTextsTellContents}
use Rattle.pp_line_contents.specs.Reports.{Counts, MadeContent, counts_text}
use Rattle.pp_line_contents.proofs.Others.{no_blank}
use Rattle.pp_print.specs.Made.{made_text}

-- the counts, and the end of the text
abbrev last : MadeContent → List ℕ
last m = counts_text m.counts ++ []

-- the text, word by word
words_of : (m : MadeContent) → concat (made_text m.functions ∷ counts_text m.counts ∷ [])
    ≡ codes "made " ++ (decimal m.functions ++ (codes " functions\n" ++ last m))
words_of m =
    append_assoc (codes "made ") (decimal m.functions ++ codes " functions\n") (last m)
    ∙ ap (λ l. codes "made " ++ l) (append_assoc (decimal m.functions) (codes " functions\n") (last m))

pub made_texts_tell_contents : MadeTextsTellContents
made_texts_tell_contents text a b h k =
    let functions = one_decimal a.functions b.functions _ _ h.few k.few no_blank no_blank
    (append_cancel_left (codes "made ") _ _ (sym (words_of a) ∙ sym h.whole ∙ k.whole ∙ words_of b)) in
    let ends : last a ≡ last b = append_cancel_left (codes " functions\n") _ _ functions.1 in
    let counts = counts_same a.counts b.counts h.small k.small
    (sym (append-nil (counts_text a.counts)) ∙ ends ∙ append-nil (counts_text b.counts)) in
    let content : ℕ → Counts → MadeContent = λ n c. record { functions = n; counts = c } in
    ap (λ n. content n a.counts) functions.0 ∙ ap (content b.functions) counts
