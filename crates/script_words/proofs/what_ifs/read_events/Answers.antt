use Rattle.std.proofs.Common.{◌+◌, Ok, Some, drop, ap, sym, ◌∙◌, rules}
use Rattle.point_codes.proofs.CodeLemmas.{map_Some}
use Rattle.tokens.specs.Pieces.{all_of}
use Rattle.tokens.proofs.PiecesLemmas.{onto}
use Rattle.tokens.proofs.WordsLemmas.{nows}
use Rattle.script_words.specs.Wholes.{listed_of}
use Rattle.script_words.specs.Commands.{pieces_at}
use Rattle.script_words.proofs.PieceLemmas.{piece_next, piece_end, listed_more, listed_none, listed_last}
use Rattle.script_words.proofs.what_ifs.read_events.Goals as goal

pub returns-then-not-added : goal.returns-then-not-added
returns-then-not-added c =
    listed_none c.loop-size.list.items _ _ _ _ (piece_next c.args.words.now c.loop-size.start c.in-Some.size (sym c.in-Some.ensures.place)) (c.in_ok-added.ensures.none (ap Ok c.if-not-added.true)) c.loop-size.invariant.all

pub loop-size-preserved : goal.loop-size-preserved
loop-size-preserved c =
    let first = map_Some _ _ c.add_listed.new.list.items (c.in_ok-added.ensures.added (ap Ok c.if-not-added.false)) in record {
      within = search rules;
      all = ap (λ es. onto es (all_of listed_of (pieces_at (nows (drop (c.loop-size.start + (c.in-Some.size + 1)) c.args.words.now))))) (sym first.2)
          ∙ listed_more c.loop-size.list.items _ first.0 _ _ _ (piece_next c.args.words.now c.loop-size.start c.in-Some.size (sym c.in-Some.ensures.place)) first.1 c.loop-size.invariant.all;
    }

pub returns-then-not-added-2 : goal.returns-then-not-added-2
returns-then-not-added-2 c =
    listed_none c.loop-size.list.items _ _ _ _ (piece_end c.args.words.now c.loop-size.start (sym c.in_default.ensures.place)) (c.in_ok-added-2.ensures.none (ap Ok c.if-not-added-2.true)) c.loop-size.invariant.all

pub returns : goal.returns
returns c =
    let last = map_Some _ _ c.add_listed-2.new.list.items (c.in_ok-added-2.ensures.added (ap Ok c.if-not-added-2.false)) in
    ap Some (c.from_vec.ensures ∙ sym last.2)
    ∙ listed_last c.loop-size.list.items _ last.0 _ _ (piece_end c.args.words.now c.loop-size.start (sym c.in_default.ensures.place)) last.1 c.loop-size.invariant.all
