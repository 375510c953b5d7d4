-- The line that an HTTP request begins with (RFC 9112, 3).
use Rattle.std.specs.Prelude.{ℕ, ◌++◌, List, [], ◌∷◌, Bool, codes, nat_eq}
use Rattle.std.specs.List.{list_any, starts_with}

-- Methods of requests; their case matters (RFC 9110, 9.1).
abbrev pub methods : List (List ℕ)
methods = codes "CONNECT" ∷ codes "GET" ∷ codes "HEAD" ∷ codes "OPTIONS" ∷ codes "POST" ∷ codes "PUT" ∷ []

-- A request line is a method, a space and more (RFC 9112, 3).
abbrev pub begins_with_method : List ℕ → List ℕ → Bool
begins_with_method line method = starts_with nat_eq line (method ++ codes " ")

-- A line begins an HTTP request of one of these methods.
unfoldable pub is_http_request : List ℕ → Bool
is_http_request line = list_any (λ method. begins_with_method line method) methods
