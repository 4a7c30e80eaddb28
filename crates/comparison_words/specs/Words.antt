-- A comparison's result as words: its number and node, the verdict, the index, and both answers.
use Rattle.std.specs.Prelude.{ℕ, List}
use Rattle.meaning.specs.Rules.Comparison.{Comparison}
use Rattle.meaning.specs.Rules.Verdict.{check_number}
use Rattle.result_words.specs.Words.{result_words}

abbrev pub comparison_words : Comparison → List ℕ
comparison_words c = result_words c.refusal (check_number c.verdict) c.index c.first c.second
