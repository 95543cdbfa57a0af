mod EscapeLemmas
