-- The two modes of a session, and what is served in them (RFC 6855 and 6856; RFC 6857 for surrogates).
use Rattle.std.specs.Prelude.{◌≡◌, ℕ, List, Bool, true, false}
use Rattle.surrogate_rope.specs.Layout.{HasSurrogate, HasAsciiBlocks}
use Rattle.surrogate_rope.specs.declared.shown.Shown.{Shown}
use Rattle.surrogate_rope.specs.declared.shown.Shown.TheVariants.{Whole, Rope}

-- a session begins as legacy, and is enabled once it asks for UTF-8
pub data Mode : Type 0 where
  legacy : Mode
  enabled : Mode

-- The session has enabled UTF-8 (RFC 6855, 3; RFC 6856, 2).
abbrev pub is_enabled : Mode → Bool
is_enabled legacy = false
is_enabled enabled = true

-- what is served: the surrogate to a legacy session, the stored octets to an enabled one
abbrev pub IsServed : Mode → List ℕ → List ℕ → Type 0
IsServed legacy msg shown = HasSurrogate msg shown
IsServed enabled msg shown = shown ≡ msg

-- a legacy session is shown ASCII headers, those of inner parts and messages too
abbrev pub HasServedHeaders : Mode → List ℕ → Type 0
HasServedHeaders legacy shown = HasAsciiBlocks shown
HasServedHeaders enabled shown = Unit {0}

-- an enabled session is shown the message itself, a legacy one a rope
abbrev pub IsShownBy : Mode → Shown → Type 0
IsShownBy legacy (Whole tree) = ⊥
IsShownBy legacy (Rope rope) = Unit {0}
IsShownBy enabled (Whole tree) = Unit {0}
IsShownBy enabled (Rope rope) = ⊥

-- Whatever is the surrogate of a message is what the function gives of it. (A message has one surrogate at most, so there is
-- such a function.)
abbrev pub GivesSurrogates : (List ℕ → List ℕ) → Type 0
GivesSurrogates surrogate = (msg made : List ℕ) → HasSurrogate msg made → made ≡ surrogate msg

-- what is served of a message, by a function that gives surrogates
abbrev pub served_by : (List ℕ → List ℕ) → Mode → List ℕ → List ℕ
served_by surrogate legacy msg = surrogate msg
served_by surrogate enabled msg = msg
