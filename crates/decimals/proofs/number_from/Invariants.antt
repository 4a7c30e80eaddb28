-- `number_from` meets its contract. The invariant: what is left to read, from the word so far, is what was to be read.
use Rattle.std.proofs.Common.{◌≡◌, drop}
use Rattle.decimals.specs.Words.{number}
use Rattle.decimals.proofs.number_from.Given as goal

abbrev pub invariant-loop-i : goal.invariant-loop-i
invariant-loop-i l = record {
  here : l.word.next ≡ l.i;
  left : number l.word.value l.i (drop l.i l.text) ≡ number 0 l.start (drop l.start l.text);
}
