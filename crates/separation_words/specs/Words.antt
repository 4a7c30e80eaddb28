-- A separation's result as words: its number and node, the judgement, the index, and both answers.
use Rattle.std.specs.Prelude.{ℕ, List}
use Rattle.meaning.specs.Rules.Separation.{Separation}
use Rattle.meaning.specs.Rules.Separation.{judgement_number}
use Rattle.result_words.specs.Words.{result_words}

abbrev pub separation_words : Separation → List ℕ
separation_words s = result_words s.refusal (judgement_number s.judgement) s.index s.run s.cleared
