-- `read_lines` meets its contract. The invariant: what the text holds is what follows from the place on, with what has been read.
use Rattle.std.proofs.Common.{sym, ◌∙◌}
use Rattle.prism_text.specs.LinesLaws.{lines_start, lines-short, lines-held, lines-open, lines-other, lines-fault, lines-turn}
use Rattle.prism_text.proofs.read_lines.Goals as goal
use Rattle.prism_text.proofs.read_lines.Goals.{else-at-end-via-then-at-end+else-counts, else-at-end-via-else-at-end}

pub lines-init : goal.lines-init
lines-init c = lines_start c.requires c.nothing_read-p.ensures

pub returns-in-Some : goal.returns-in-Some
returns-in-Some c =
    lines-short c.lines.invariant c.piece_end-end.ensures c.read_line-line.ensures.read (sym c.short_at.ensures ∙ c.in-Some.is)
    (record { is = c.at.ensures.is ∙ c.fault.ensures; at = c.at.ensures.at })

pub returns-then-counts : goal.returns-then-counts
returns-then-counts c =
    lines-held c.lines.invariant c.piece_end-end.ensures c.read_line-line.ensures.read (sym c.short_at.ensures ∙ c.in_default.is)
    c.if-end-text.true c.if-at-end.true (sym c.counts.ensures ∙ c.if-counts.true)

pub returns-then-end-text : goal.returns-then-end-text
returns-then-end-text c =
    let adds = sym c.short_at.ensures ∙ c.in_default.is in
    elim c.else-at-end.branch [
      | else-at-end-via-then-at-end+else-counts w ↦ lines-other c.lines.invariant c.piece_end-end.ensures c.read_line-line.ensures.read adds (record { is = c.at-then-end-text.ensures.is ∙ c.fault-then-end-text.ensures; at = c.at-then-end-text.ensures.at }) c.if-end-text.true w.if-at-end.true (sym w.counts.ensures ∙ w.if-counts.false)
      | else-at-end-via-else-at-end w ↦ lines-open c.lines.invariant c.piece_end-end.ensures c.read_line-line.ensures.read adds (record { is = c.at-then-end-text.ensures.is ∙ c.fault-then-end-text.ensures; at = c.at-then-end-text.ensures.at }) c.if-end-text.true w.if-at-end.false
    ]

pub returns-in_default-step : goal.returns-in_default-step
returns-in_default-step c =
    lines-fault c.lines.invariant c.piece_end-end.ensures c.read_line-line.ensures.read (sym c.short_at.ensures ∙ c.in_default.is) c.if-end-text.false
    (record { is = c.at-in_default-step.ensures.is ∙ c.fault-in_default-step.ensures; at = c.at-in_default-step.ensures.at }) c.in_default-step.ensures

pub lines-preserved : goal.lines-preserved
lines-preserved c =
    lines-turn c.lines.invariant c.piece_end-end.ensures c.read_line-line.ensures.read (sym c.short_at.ensures ∙ c.in_default.is) c.if-end-text.false c.in-Some-step.ensures
