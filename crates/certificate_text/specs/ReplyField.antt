-- The reply field of an entry line: a binary digit for each variable of the block, or `-` where no reply is owed.
use Rattle.std.specs.Prelude.{ℕ, ◌+◌, ◌-◌, ◌*◌, Bool, ◌&&◌, ◌||◌, List, [], ◌∷◌, length, Some, None, Option, ◌==◌, nat_lt, if◌then◌else◌}
use Rattle.std.specs.List.{list_all}
use Rattle.entries.specs.declared.entry.Reply.{Reply}
use Rattle.entries.specs.declared.entry.Reply.TheVariants.{None as NoReply, Value}
use Rattle.certificate_text.specs.SetField.{is_dash}

-- The digit 0 or 1 (byte 48 or 49).
abbrev pub is_bit : ℕ → Bool
is_bit b = b == 48 || b == 49

-- One or more binary digits.
abbrev pub bits_formed : List ℕ → Bool
bits_formed w = nat_lt 0 (length w) && list_all is_bit w

-- One or more binary digits, or `-`.
abbrev pub reply_formed : List ℕ → Bool
reply_formed w = is_dash w || bits_formed w

-- The number that binary digits write after those of n.
abbrev pub binary : ℕ → List ℕ → ℕ
binary n [] = n
binary n (b ∷ bs) = binary (n * 2 + (b - 48)) bs

-- The reply that a field of the right form writes for a block of this width: a digit for each variable where a reply
-- is owed, and else `-`.
abbrev pub reply_of : Bool → ℕ → List ℕ → Option Reply
reply_of owed width w =
    if is_dash w then (if owed then None else Some NoReply) else (if owed && length w == width then Some (Value (binary 0 w)) else None)

-- The first field, which has the form of a reply, and the other fields.
abbrev pub take_reply : List (List ℕ) → Option (List ℕ × List (List ℕ))
take_reply [] = None
take_reply (w ∷ ws) = if reply_formed w then Some (w, ws) else None
