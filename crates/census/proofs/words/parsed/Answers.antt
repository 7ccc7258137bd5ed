use Rattle.std.proofs.Common.{rules, ◌≡◌, ℕ, ◌<◌, ◌^◌, List, decimal, subst, sym}
use Rattle.std.specs.Prelude.{IsUtf8}
use Rattle.std.proofs.lemmas.Fmt.{IsAscii-decimal, parse-decimal}
use Rattle.std.proofs.lemmas.Str.{IsUtf8-from_ascii}
use Rattle.census.proofs.words.parsed.Goals as goal

utf8-decimal : (n : ℕ) (bytes : List ℕ) → n < 2 ^ 64 → bytes ≡ decimal n → IsUtf8 bytes
utf8-decimal n bytes low is = subst IsUtf8 (sym is) (IsUtf8-from_ascii (decimal n) (IsAscii-decimal n low))

pub returns-in_err-text : goal.returns-in_err-text
returns-in_err-text c = λ n low is. let utf8 : IsUtf8 c.args.word.now = utf8-decimal n _ low is in search rules

pub returns : goal.returns
returns c = λ n low is.
    let same : c.in_ok-text.text.now ≡ decimal n = search rules in
    let read = parse-decimal 64 n _ _ low low same c.parse.ensures.value.0 in search rules
