-- `fetch` meets its contract: the answer's stretch or run lies in the model, and is the part handed back.
use Rattle.fetch.specs.Fetched.{fetch-stretch, fetch-handed}
use Rattle.fetch.proofs.fetch.Goals as goal

pub hand_back-requires : goal.hand_back-requires
hand_back-requires c = fetch-stretch _ _ c.fetch_answer-answer.ensures

pub returns : goal.returns
returns c = fetch-handed _ _ c.fetch_answer-answer.ensures c.hand_back.ensures
