-- Document 02, K6: a cost model read. After the last transition comes the cost record, then nothing.
use Rattle.std.specs.Prelude.{ℕ, zero, suc, ◌+◌, List}
use Rattle.bisimulation.specs.definitions.Choice.{if_less}
use Rattle.rules.specs.definitions.Limits.{Limits}
use Rattle.rules.specs.definitions.Bytes.{byte_at}
use Rattle.rules.specs.definitions.Faults.{Fault, fault, no_fault, model_record, open_fault}
use Rattle.rules.specs.definitions.Reading.{Scan, sound, refused, refuse_at, scan_model, refuse_bytes_left, reading_of}
use Rattle.rules.specs.definitions.Judging.{Reader}
use Rattle.cost_files.specs.definitions.CostModel.{highest_cost}

-- '29, cost above 63'
unfoldable pub cost_fault : (cost : ℕ) → Fault
cost_fault cost = if_less highest_cost cost (fault 29) no_fault

-- '29, .. at its byte', for the costs left at a place
unfoldable pub scan_costs : List ℕ → (left at : ℕ) → Scan → Scan
scan_costs s zero at next = next
scan_costs s (suc left) at next = refuse_at (cost_fault (byte_at s at)) at (scan_costs s left (at + 1) next)

-- 'after its transitions, a record marked 43 4F with one byte for each transition': 1, 2, 29
unfoldable pub scan_cost_record : List ℕ → Scan → Scan
scan_cost_record s (sound n m count end) =
    refuse_at (open_fault model_record 0x434F (2 + count) s end) end
    (scan_costs s count (end + 2) (sound n m count (end + 2 + count)))
scan_cost_record s (refused f place) = refused f place

-- a file that holds a cost model and nothing else: refusals 1 to 8 and 34, then those of the cost record, then 9
unfoldable pub scan_cost_model : Limits → List ℕ → Scan
scan_cost_model L s = refuse_bytes_left s (scan_cost_record s (scan_model L s))

-- reading it
unfoldable pub read_costs : Limits → Reader
read_costs L s = reading_of s (scan_cost_model L s)
