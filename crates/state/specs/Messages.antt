-- Messages: what eight bytes ask for.
use Rattle.std.specs.Prelude.{ℕ, ◌+◌, ◌*◌, cond, ◌&&◌, List, length, Ok, Err, Result, ◌==◌, slice_index}
use Rattle.state.specs.declared.message.Message.{Message}
use Rattle.state.specs.declared.message.Message.TheVariants.{Make, Write, Number, Read, Copy, Turn}
use Rattle.state.specs.declared.message.Sender.{Sender}
use Rattle.state.specs.declared.message.Sender.TheVariants.{Airline, Airport, Crew}
use Rattle.state.specs.declared.refusal.Refusal.{Refusal}
use Rattle.state.specs.declared.refusal.Refusal.TheVariants.{Malformed}

-- Senders are 1 airline, 2 airport, 3 crew.
abbrev pub sender_code : Sender → ℕ
sender_code Airline = 1
sender_code Airport = 2
sender_code Crew = 3

abbrev pub sender_of : ℕ → Result Sender Refusal
sender_of code = cond (code == 1) (Ok Airline) (cond (code == 2) (Ok Airport) (cond (code == 3) (Ok Crew) (Err Malformed)))

-- A letter is its ASCII code; a sender is its code. A field that the message does not use is 0.
abbrev pub message_of : ℕ → ℕ → ℕ → ℕ → ℕ → Result Message Refusal
message_of sender letter p q n =
    cond (letter == 77 && sender == 1) (Ok (Make p q n))
    (cond (letter == 87 && sender == 1) (Ok (Write p q n))
    (cond (letter == 78 && (sender == 1 && q == 0)) (Ok (Number p n))
    (cond (letter == 82 && sender == 3) (Ok (Read p q n))
    (cond (letter == 67 && (sender == 3 && n == 0)) (Ok (Copy p q))
    (cond (letter == 84 && (sender == 2 && (p == 0 && n == 0))) (Ok (Turn q))
    (Err Malformed))))))

-- Eight bytes: sender, letter, p, q and a four-byte number, its low byte first.
abbrev pub decoded : List ℕ → Result Message Refusal
decoded bytes =
    cond (length bytes == 8)
    (message_of (slice_index bytes 0) (slice_index bytes 1) (slice_index bytes 2) (slice_index bytes 3)
    (slice_index bytes 4 + 256 * slice_index bytes 5 + 65536 * slice_index bytes 6 + 16777216 * slice_index bytes 7))
    (Err Malformed)
