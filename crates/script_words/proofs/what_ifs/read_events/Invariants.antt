use Rattle.std.proofs.Common.{◌≡◌, ◌≤◌, ◌-◌, length, drop}
use Rattle.tokens.specs.Pieces.{all_of}
use Rattle.tokens.proofs.PiecesLemmas.{onto}
use Rattle.tokens.proofs.WordsLemmas.{nows}
use Rattle.script_words.specs.Wholes.{listed_of}
use Rattle.script_words.specs.Commands.{pieces_at}
use Rattle.script_words.proofs.what_ifs.read_events.Given as goal

-- the next piece starts within the words; what was read and what is left to read give what all gives
abbrev pub invariant-loop-size : goal.invariant-loop-size
invariant-loop-size l = record {
  within : l.start ≤ length l.words;
  all : onto l.list.items (all_of listed_of (pieces_at (nows (drop l.start l.words)))) ≡ all_of listed_of (pieces_at (nows l.words));
}

abbrev pub decreases-loop-size : goal.decreases-loop-size
decreases-loop-size l = length l.words - l.start
