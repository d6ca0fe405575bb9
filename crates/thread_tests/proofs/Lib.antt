mod RelaySenders
