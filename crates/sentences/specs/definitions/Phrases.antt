-- Document 02, K12: 'a fixed phrase for each number, later requests' included, no two alike, and one more for all unknown ones'.
use Rattle.std.specs.Prelude.{ℕ, List, [], ◌∷◌, get_or}
use Prim.Native.Char.{code}
use Prim.Native.String.{String, [] as «empty», ◌∷◌ as ◌«then»◌}

-- the bytes of a text, which is ASCII
unfoldable pub bytes_of : String → List ℕ
bytes_of «empty» = []
bytes_of (c «then» cs) = code c ∷ bytes_of cs

-- for the numbers from 0 on
unfoldable pub phrases : List (List ℕ)
phrases =
    bytes_of "everything that was asked for was done and nothing was refused" ∷
    bytes_of "the model file ends inside a record or where the next one should begin" ∷
    bytes_of "a record of the model does not begin with the mark that belongs there" ∷
    bytes_of "the head of the model gives a number of states, actions or transitions that is not allowed" ∷
    bytes_of "the model has a label that is higher than allowed" ∷
    bytes_of "a transition of the model has a source, action, denominator or entry count that is not allowed" ∷
    bytes_of "a transition of the model leads to an unknown or misplaced state or has a weight of zero" ∷
    bytes_of "the weights of a transition do not add up to its denominator" ∷
    bytes_of "the transitions of the model have more entries together than are allowed" ∷
    bytes_of "the model file goes on after the model has ended" ∷
    bytes_of "the buffer that was lent for the blocks is too short for all states" ∷
    bytes_of "the certificate file ends inside a record or where the next one should begin" ∷
    bytes_of "a record of the certificate does not begin with the mark that belongs there" ∷
    bytes_of "the head of the certificate announces more refutations than are allowed" ∷
    bytes_of "a refutation names an unknown transition or state or a pair of states that it cannot part" ∷
    bytes_of "a price condition of a refutation, other than its last one, does not hold" ∷
    bytes_of "the last price condition of a refutation does not hold" ∷
    bytes_of "the blocks of the certificate are not numbered in the order in which they first appear" ∷
    bytes_of "the blocks of the certificate do not agree with the pairs of states that are still related" ∷
    bytes_of "a flow moves nothing or has an entry that is out of order, zero, unknown or out of place" ∷
    bytes_of "what comes to a state in a flow is not what leaves it" ∷
    bytes_of "what a flow leaves at a target is not the share that the challenging transition has there" ∷
    bytes_of "the certificate file goes on after its last flow" ∷
    bytes_of "the certificate is accepted but the lent buffer is too short for the merged model" ∷
    bytes_of "the model does not have the state whose transitions were asked for" ∷
    bytes_of "the two models joined to one have more states, transitions or entries than are allowed" ∷
    bytes_of "the lent buffer is too short for the two models joined to one" ∷
    bytes_of "the certificate is accepted but a state to be compared is not in its part of the model" ∷
    bytes_of "the certificate is accepted but the lent buffer is too short for the sheet of blocks" ∷
    bytes_of "the model has a cost that is higher than allowed" ∷
    bytes_of "what a flow costs is not what the challenging transition costs" ∷
    bytes_of "a line of the text is missing, surplus, too much for a model or not of the right form" ∷
    bytes_of "the probabilities of a choice in the text do not add up to one" ∷
    bytes_of "the lent buffer is too short for the model that the text holds" ∷
    bytes_of "the weights of a transition have a common divisor and so are not in lowest terms" ∷
    bytes_of "the certificate is accepted but a number of a flow becomes too large in lowest terms" ∷
    bytes_of "the certificate is accepted but a lent buffer is too short for a file in lowest terms" ∷
    bytes_of "the composition of the two models goes beyond what a model may hold" ∷
    bytes_of "the lent buffer is too short for the composed model or for the one with actions hidden" ∷
    bytes_of "the lent buffer is too short for the sentence" ∷
    bytes_of "the number of states or transitions asked for the largest certificate is not allowed" ∷
    bytes_of "a lent buffer is too short for the model with the largest certificate or for the certificate" ∷
    []

-- for all others
unfoldable pub other_phrase : List ℕ
other_phrase = bytes_of "no answer of this version has this number"

unfoldable pub phrase_of : (number : ℕ) → List ℕ
phrase_of number = get_or phrases number other_phrase
