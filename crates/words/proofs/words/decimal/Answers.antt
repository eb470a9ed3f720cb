use Rattle.std.proofs.Common.{◌≡◌, true, rules}
use Rattle.std.specs.Str.{all_ascii_digits}
use Rattle.std.proofs.lemmas.Str.Parse.{IsNumeralModel, numerals_by_fold, parse_plain}
use Rattle.words.specs.Words.{read_on}
use Rattle.words.proofs.words.decimal.Goals as goal

own : IsNumeralModel (λ ds. all_ascii_digits ds ≡ true) (read_on 0)
own = numerals_by_fold _ (search rules) read_on (search rules)

pub returns : goal.returns
returns c = search (rules, parse_plain own 64 c.args.word.now _ c.parse.ensures.value.0)
